-- The calls that only read, the writer, the exporter and the readers, on what weighs 1: call by call as formerly.
use Rattle.std.specs.Prelude.{ℕ, ◌*◌, ◌%◌, ◌≡◌, true, length, drop, leb}
use Rattle.std.proofs.Math.Nat.{mul-one}
use Rattle.std.proofs.Math.Path.{refl, ap, ap₂}
use Rattle.std.proofs.Common.{◌∙◌}
use Rattle.std.proofs.Math.Bool.{cond}
use mathlib.Core.List.{List, [], ◌∷◌, ◌++◌, map, append-nil}
use Rattle.model.specs.declared.Layout.{Layout}
use Rattle.model.specs.declared.Edge.{Edge}
use Rattle.model.specs.declared.Counted.{Counted}
use Rattle.model.specs.Lists.{one, sum_over}
use Rattle.model.specs.Crossings.{edges, crosses, unit_weight, edge_weight, crossing_weight}
use Rattle.model.specs.Layouts.{vertex_order, table_weight, weight, valid}
use Rattle.model.specs.Checks.{Check, refusal, is_valid, buffer_fits, room_for}
use Rattle.model.specs.Reading.{Shown, count_of, order_checks, order_refusal, order_bytes, first_crossing_of}
use Rattle.model.specs.Writing.{Format, fill_checks, fill_answer, filled, write_answer, write_of, written_bytes}
use Rattle.model.specs.WrittenCharts.{unit_weighted, weight_field, chart_of, chart_format}
use Rattle.model.specs.Graph6.{graph6_of, export_checks, graph6_format}
use Rattle.model.specs.EdgeCrossings.{crossings_with, edge_crossings, table_format, count_answer, edge_crossings_of, crossing_table}
use Rattle.model.specs.Former.{former_modulus, former_valid, was_valid, former_count, former_order_checks, former_order_bytes, former_first_crossing}
use Rattle.model.specs.Former.{FormerLayout, former_fill_checks, former_filled, former_fill_answer, former_chart, former_graph6, former_table}
use Rattle.laws.specs.Sums.Indicators.{T_true}
use Rattle.laws.specs.Sums.Lists.{All, none, also, sum_over_ext}
use Rattle.laws.specs.Buffers.Formats.{Coded, chart_coded, graph6_coded, table_coded, room_tells}
use Rattle.laws.specs.Crossings.Units.{unit_weights}
use Rattle.laws.specs.Crossings.Agreeing.{EndsBelow, edges_below}
use Rattle.laws.specs.Layouts.Units.{Agreeing, unit_agrees, agrees_unit}
use Rattle.former.specs.Forgetting.{forget}
use Rattle.former.specs.AsBefore.{checked_shown, was_valid_lem, OfWeightOne}

-- each edge weighs 1
pub edges_one : (l : Layout) → Agreeing l → All (λ e. edge_weight (weight l) e ≡ 1) (edges l.n l.adjacency)
unfolding weight
edges_one l a = from (edges_below l.n l.adjacency) (unit_weights l.n l.adjacency)
  where
    from : {es : List Edge} → All (EndsBelow l.n) es → All (λ e. edge_weight (unit_weight l.adjacency) e ≡ 1) es
        → All (λ e. edge_weight (table_weight l.weights) e ≡ 1) es
    from none none = none
    from (also {x = e} p ps) (also q qs) = also {x = e} (a.agrees e.low e.high p.0 p.1 ∙ q) (from ps qs)

pub record ReadsAsBefore (l : Layout) : Type 0 where
  pub count : ((count_of l).refusal ∷ (count_of l).count % former_modulus ∷ []) ≡ former_count (forget l)
  pub order_code : (buffer : List ℕ) → order_refusal l buffer ≡ refusal (former_order_checks (forget l) buffer)
  pub order_bytes_lem : (buffer : List ℕ) → order_bytes l buffer ≡ former_order_bytes (forget l) buffer
  pub first_crossing : first_crossing_of l ≡ former_first_crossing (forget l)
  pub chart : (buffer : List ℕ) → write_of chart_format l buffer ≡ former_fill_answer former_chart 19 (forget l) buffer write_answer
  pub chart_bytes : (buffer : List ℕ) → written_bytes chart_format l buffer ≡ former_filled former_chart 19 (forget l) buffer
  pub graph6 : (buffer : List ℕ) → write_of graph6_format l buffer ≡ former_fill_answer former_graph6 19 (forget l) buffer write_answer
  pub graph6_bytes : (buffer : List ℕ) → written_bytes graph6_format l buffer ≡ former_filled former_graph6 19 (forget l) buffer
  pub table : (entries : List ℕ) → edge_crossings_of l entries ≡ former_fill_answer former_table 23 (forget l) entries count_answer
  pub table_entries : (entries : List ℕ) → crossing_table l entries ≡ former_filled former_table 23 (forget l) entries

module _ (l : Layout) (o : OfWeightOne l) where
  here : Agreeing l
  here = unit_agrees l o.whole.is_valid_lem o.unit

  all_one : unit_weighted l ≡ true
  all_one = T_true (unit_weighted l) (agrees_unit l here)

  first_passes : (cs : List Check) → refusal (is_valid l ∷ cs) ≡ refusal (was_valid (forget l) ∷ cs)
  unfolding refusal is_valid was_valid
  first_passes cs =
      rw (T_true (valid l) o.whole.is_valid_lem, T_true (former_valid (forget l)) (was_valid_lem l o.whole.is_valid_lem))

  -- what is written
  same_chart : chart_of l ≡ former_chart (forget l)
  unfolding chart_of former_chart weight_field vertex_order
  same_chart = rw all_one (append-nil _)

  -- each crossing counts one
  same_number : (e : Edge) → edge_weight (weight l) e ≡ 1
      → crossings_with (weight l) (vertex_order l) (edges l.n l.adjacency) e
      ≡ sum_over (λ f. one (crosses (vertex_order l) e f)) (edges l.n l.adjacency)
  unfolding crossings_with crossing_weight
  same_number e p =
      sum_over_ext (crossing_weight (weight l) (vertex_order l) e) (λ f. one (crosses (vertex_order l) e f)) (edges_one l here)
      (λ f q. ap₂ (λ (x y : ℕ). one (crosses (vertex_order l) e f) * (x * y)) p q ∙ mul-one (one (crosses (vertex_order l) e f)))

  same_table : edge_crossings l ≡ former_table (forget l)
  unfolding edge_crossings former_table vertex_order
  same_table = from (edges_one l here)
    where
      from : {es : List Edge} → All (λ e. edge_weight (weight l) e ≡ 1) es
          → map (crossings_with (weight l) (vertex_order l) (edges l.n l.adjacency)) es
          ≡ map (λ e. sum_over (λ f. one (crosses (vertex_order l) e f)) (edges l.n l.adjacency)) es
      from none = refl
      from (also {x = e} p ps) = ap₂ (λ (x : ℕ) (xs : List ℕ). x ∷ xs) (same_number e p) (from ps)

  -- a buffer filled with the same entries, behind checks of its own that pass
  module _ (f : Format) (entries : FormerLayout → List ℕ) (same : f.entries l ≡ entries (forget l)) (own : refusal (f.checks l) ≡ 0)
      (coded : Coded f) (buffer : List ℕ) where
    same_code : refusal (fill_checks f l buffer) ≡ refusal (former_fill_checks entries f.short (forget l) buffer)
    unfolding refusal room_for is_valid was_valid
    same_code =
        first_passes (f.checks l ++ (room_for f.short (f.entries l) buffer ∷ []))
        ∙ ap (λ (k : ℕ). cond (former_valid (forget l)) k 11) (room_tells coded l buffer own)
        ∙ ap (λ (xs : List ℕ). cond (former_valid (forget l)) (cond (leb (length xs) (length buffer)) 0 f.short) 11) same

    answered_alike : {A : Type 0} (answer : ℕ → ℕ → A) → fill_answer f l buffer answer ≡ former_fill_answer entries f.short (forget l) buffer answer
    answered_alike {A} answer =
        checked_shown (λ (x : A). x) (fill_checks f l buffer) (former_fill_checks entries f.short (forget l) buffer) same_code
        (λ z. ap (λ (xs : List ℕ). answer 0 (length xs)) same) (λ k. refl)

    filled_alike : filled f l buffer ≡ former_filled entries f.short (forget l) buffer
    filled_alike =
        checked_shown (λ (x : List ℕ). x) (fill_checks f l buffer) (former_fill_checks entries f.short (forget l) buffer) same_code
        (λ z. ap (λ (xs : List ℕ). xs ++ drop (length xs) buffer) same) (λ k. refl)

  no_weight_told : refusal (export_checks l) ≡ 0
  unfolding export_checks refusal
  no_weight_told = rw all_one

  same_graph6 : graph6_of l ≡ former_graph6 (forget l)
  unfolding graph6_of former_graph6
  same_graph6 = refl

  pub reads_as_before : ReadsAsBefore l
  unfolding count_of former_count order_refusal order_checks order_bytes buffer_fits former_order_checks former_order_bytes first_crossing_of former_first_crossing
      vertex_order write_of written_bytes edge_crossings_of crossing_table refusal
  reads_as_before =
      record {
        count =
            checked_shown (λ (a : Counted). a.refusal ∷ a.count % former_modulus ∷ []) (is_valid l ∷ []) _ (first_passes []) (λ z. refl) (λ k. refl);
        order_code = λ buffer. first_passes (buffer_fits l (length buffer) ∷ []);
        order_bytes_lem = λ buffer.
            checked_shown (λ (x : List ℕ). x) (order_checks l buffer) _ (first_passes (buffer_fits l (length buffer) ∷ [])) (λ z. refl) (λ k. refl);
        first_crossing = checked_shown (λ (x : Shown). x) (is_valid l ∷ []) _ (first_passes []) (λ z. refl) (λ k. refl);
        chart = λ buffer. answered_alike chart_format former_chart same_chart refl chart_coded buffer write_answer;
        chart_bytes = λ buffer. filled_alike chart_format former_chart same_chart refl chart_coded buffer;
        graph6 = λ buffer. answered_alike graph6_format former_graph6 same_graph6 no_weight_told graph6_coded buffer write_answer;
        graph6_bytes = λ buffer. filled_alike graph6_format former_graph6 same_graph6 no_weight_told graph6_coded buffer;
        table = λ entries. answered_alike table_format former_table same_table refl table_coded entries count_answer;
        table_entries = λ entries. filled_alike table_format former_table same_table refl table_coded entries;
      }
