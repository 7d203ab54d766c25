-- What the call has asked, and what it then fills the table with.
use Rattle.std.specs.Prelude.{Result, Ok, Err, ℕ, ◌≤◌, ◌≡◌, List, length, T}
use Rattle.std.proofs.Common.{sym, ap, ◌∙◌}
use Rattle.model.specs.declared.Layout.{Layout}
use Rattle.model.specs.declared.refusal.Refusal.{Refusal}
use Rattle.model.specs.Answers.{refusal_number, told_by, as_edges}
use Rattle.model.specs.Crossings.{edges}
use Rattle.model.specs.Layouts.{vertex_order, weight, valid}
use Rattle.model.specs.EdgeCrossings.{edge_crossings, table_format, count_answer, edge_crossings_of, crossing_table}
use Rattle.laws.specs.Layouts.Validity.{sound}
use Rattle.laws.specs.Layouts.Weights.{weighted, valid_edges}
use Rattle.laws.specs.Buffers.Writing.{Written, written_whole}
use Rattle.laws.specs.Buffers.EdgeTables.{numbers_length}
use Rattle.buffer_checks.specs.Answers.{Asked, passed, fill_back, is_valid_lem, room, fill_done}
use Rattle.edge_list.specs.Rows.{listed_edges, listed_few}
use Rattle.edge_crossings.specs.Numbers.{Drawable, numbers_of}

-- a valid layout has a number for each edge that is counted
pub counted_is : (l : Layout) → T (valid l) → {count : ℕ} → count ≡ length (listed_edges l.n l.adjacency) → count ≡ length (edge_crossings l)
counted_is l t e = e ∙ ap length (listed_few l.n l.adjacency (sound l t).small) ∙ sym (numbers_length l)

module _ {l : Layout} {table : List ℕ} {count : ℕ} {answer : Result (Unit {0}) Refusal} (a : Asked table_format l table 0 count (refusal_number answer)) where
  pub refused : {e : Refusal} → answer ≡ Err e → (as_edges (Err e) ≡ edge_crossings_of l table) × (table ≡ crossing_table l table)
  unfolding edge_crossings_of crossing_table as_edges told_by
  refused told = fill_back a told count_answer

  module _ {x : Unit {0}} (told : answer ≡ Ok x) where
    z : refusal_number answer ≡ 0
    z = passed a told

    pub fits : Drawable l.n l.order l.adjacency l.weights × (length (edges l.n l.adjacency) ≤ length table)
    unfolding weight
    fits =
        let t = is_valid_lem a z in
        (record { weighted = weighted l t; same_edges_lem = valid_edges l t }, rw (← (numbers_length l), ← (a.measured t)) (room a z))

    pub numbers_put : {after : List ℕ} {end : ℕ} → Written table 0 (numbers_of l.n l.order l.adjacency l.weights) after end
        → (as_edges (Ok count) ≡ edge_crossings_of l table) × (after ≡ crossing_table l table)
    unfolding edge_crossings_of crossing_table numbers_of edge_crossings vertex_order weight as_edges told_by
    numbers_put w = fill_done a z count_answer (written_whole w).0
