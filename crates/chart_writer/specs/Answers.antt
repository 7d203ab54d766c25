-- What the call that writes a chart has asked, and what it then writes.
use Rattle.std.specs.Prelude.{Option, Some, None, Result, Ok, ℕ, ◌+◌, ◌*◌, ◌≤◌, ◌≡◌, refl, Bool, true, false, cond, List, [], map, length, take, T, leb}
use Rattle.std.proofs.Common.{sym, ap, ◌∙◌, le-leb}
use Rattle.model.specs.declared.Layout.{Layout}
use Rattle.model.specs.declared.refusal.Refusal.{Refusal}
use Rattle.model.specs.Answers.{refusal_number, told_by, as_written}
use Rattle.model.specs.Crossings.{edges, edge_weight}
use Rattle.model.specs.Layouts.{vertex_order, table_weight, weight, valid}
use Rattle.model.specs.Writing.{write_of, written_bytes}
use Rattle.model.specs.WrittenCharts.{field_bytes, weights_of, weight_field, chart_of, chart_format}
use Rattle.laws.specs.Layouts.Validity.{sound}
use Rattle.laws.specs.Layouts.Units.{none_above_one}
use Rattle.laws.proofs.Layouts.Units.{unit_asked}
use Rattle.laws.specs.Buffers.Writing.{Written, written_whole}
use Rattle.laws.specs.Buffers.Charts.{chart_with, chart_edges_lem, chart_size_lem}
use Rattle.buffer_checks.specs.Answers.{Asked, is_valid_lem, room, written, passed}
use Rattle.chart_writer.specs.Fields.{weight_room, weight_bytes, weight_bytes_length, ChartFits}

-- the table of weights that is written, or none
abbrev pub weights_kept : List ℕ → Option (List ℕ)
weights_kept ws = cond (none_above_one ws) None (Some ws)

-- how many bytes a chart has, by what the call counts
abbrev pub counted : ℕ → List ℕ → Option (List ℕ) → ℕ
counted n adj weights = cond (leb n 64) (10 + 2 * length (edges n adj) + n + weight_room weights (length (edges n adj))) 0

-- the weights of a valid layout as the call writes them
field_is : (l : Layout) → T (valid l) → weight_field l ≡ weight_bytes (weights_kept l.weights) (edges l.n l.adjacency)
unfolding weight_field weights_of weight_bytes weight
field_is l t = rw (← (unit_asked l t)) (by_test (none_above_one l.weights))
  where
    by_test : (b : Bool)
        → cond b [] (field_bytes 0x57 (map (edge_weight (table_weight l.weights)) (edges l.n l.adjacency)))
        ≡ weight_bytes (cond b None (Some l.weights)) (edges l.n l.adjacency)
    by_test true = refl
    by_test false = refl

-- of a valid layout
pub counted_is : (l : Layout) → T (valid l) → counted l.n l.adjacency (weights_kept l.weights) ≡ length (chart_of l)
counted_is l t =
    let es = edges l.n l.adjacency in
    let last = ap length (field_is l t) ∙ weight_bytes_length (weights_kept l.weights) es in
    rw (le-leb l.n 64 (sound l t).small) (ap (λ (k : ℕ). 10 + 2 * length es + l.n + k) (sym last) ∙ sym (chart_size_lem l t))

-- what the call has asked
pub record ChartAsked (l : Layout) (buffer : List ℕ) (long : ℕ) (answer : Result (Unit {0}) Refusal) : Type 0 where
  pub asked : Asked chart_format l buffer 0 long (refusal_number answer)
  pub measured : long ≡ counted l.n l.adjacency (weights_kept l.weights)

-- where all checks have passed
module _ {l : Layout} {buffer : List ℕ} {long : ℕ} {answer : Result (Unit {0}) Refusal} (a : ChartAsked l buffer long answer) {x : Unit {0}}
    (told : answer ≡ Ok x) where
  z : refusal_number answer ≡ 0
  z = passed a.asked told

  few : l.n ≤ 64
  few = (sound l (is_valid_lem a.asked z)).small

  pub fits : ChartFits l.n l.adjacency (weights_kept l.weights) buffer
  fits = record { few = few; room = rw (a.measured, le-leb l.n 64 few) at (room a.asked z) }

  pub chart_written : {after : List ℕ} {end : ℕ}
      → (let es = edges l.n l.adjacency in
      Written buffer 0 (chart_with l.n es (take l.n l.order) (weight_bytes (weights_kept l.weights) es)) after end)
      → (as_written (Ok long) ≡ write_of chart_format l buffer) × (after ≡ written_bytes chart_format l buffer)
  unfolding vertex_order as_written told_by
  chart_written w =
      written a.asked z (written_whole (rw (← (field_is l (is_valid_lem a.asked z)), ← (chart_edges_lem l)) at w)).0
