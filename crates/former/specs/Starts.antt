-- The starts of weight 1: the empty layout, a chart without field 57 or with ones in it, an imported graph. That reading a chart without field 57, or a graph
-- in graph6, gives what it gave formerly, refusals too, is proved in proofs/Starts.antt.
use Rattle.std.specs.Prelude.{ℕ, zero, suc, ◌≤◌, ◌<◌, min, max, ◌≡◌, Bool, cond, ◌||◌, length, replicate, T, eqb}
use Rattle.std.proofs.Common.{le_of_eq, lt_of_lt_of_le, mod-eq_of_lt, arith, ◌∙◌, subst, eq-eqb}
use Rattle.std.proofs.Math.Path.{refl, sym, ap}
use Rattle.std.proofs.Math.Bool.{true, false, or-false}
use mathlib.Core.List.{List, [], ◌∷◌, map, flat_map}
use Rattle.std.proofs.lemmas.List.{length-replicate}
use Rattle.std.proofs.lemmas.Bool.{lt-leb}
use Rattle.model.specs.declared.Layout.{Layout}
use Rattle.model.specs.Answers.{LayoutRead}
use Rattle.model.specs.declared.Edge.{Edge}
use Rattle.model.specs.Lists.{upto, every, any}
use Rattle.model.specs.Crossings.{edges, edge_weight}
use Rattle.model.specs.Layouts.{empty_layout, vertex_order, weight, crossings_of, is_weight}
use Rattle.model.specs.Checks.{refusal}
use Rattle.model.specs.Charts.{fields_of, tags_of, body_of, chart_edges, has_weights, chart_weights, same_list, chart_tags, weighted_tags}
use Rattle.model.specs.Charts.{size_checks, end_checks, repeat_checks, place_checks, weight_checks, edges_in, chart_checks, joins, layout_with, read_of}
use Rattle.model.specs.WrittenCharts.{weights_of, unit_weighted}
use Rattle.model.specs.Graph6.{graph6_size, graph6_data, graph6_edges, graph6_layout, import_of}
use Rattle.model.specs.Former.{FormerRead, former_modulus, former_empty, former_layout_with, former_chart_checks}
use Rattle.laws.specs.Sums.Lists.{All, none, also}
use Rattle.laws.proofs.Crossings.Bound.{crossing_sum_bound}
use Rattle.laws.specs.Orders.Permutations.{at, at_lt}
use Rattle.laws.specs.Layouts.Validity.{sound, place_weight, crossings_rising}
use Rattle.laws.specs.Layouts.Refusals.{all_pass}
use Rattle.laws.specs.Charts.Ends.{within_mono}
use Rattle.laws.specs.Charts.Weights.{WeighedBy, table_weighed, joined_has}
use Rattle.laws.specs.Charts.Layouts.{Accepted, valid_read, count_true}
use Rattle.laws.specs.Charts.Lengths.{fields_number}
use Rattle.laws.specs.Charts.Reading.{read_is, read_number, chart_numbered, accepted, accepted_weights, chart_weight, layout_listed}
use Rattle.laws.specs.Graph6.Imports.{import_is, imported_graph6, edges_accepted, unit, unit_listed}
use Rattle.laws.specs.Layouts.Units.{Unit, Agreeing, unit_agrees, agrees_unit, ones_all}
use Rattle.former.specs.Forgetting.{forget, same_crossings}

-- ---- weights that are all 1

pub empty_unit : T (unit_weighted empty_layout)
unfolding unit_weighted weights_of edges empty_layout upto every flat_map
empty_unit = tt

-- and the empty layout is what it was
pub empty_formerly : forget empty_layout ≡ former_empty
unfolding empty_layout former_empty
empty_formerly = refl

weighed_unit : {W : ℕ → ℕ → ℕ} {es : List Edge} {table : List ℕ} → WeighedBy W es table → All (λ e. edge_weight W e ≡ 1) es → Unit table
weighed_unit {W} {es} {table} w ones =
    record { unit = λ u v h k. subst (λ (x : ℕ). x ≤ 1) (sym (w.on u v h k)) (by_test u v (any (joins u v) es) refl) }
  where
    by_test : (u v : ℕ) (b : Bool) → any (joins u v) es ≡ b → cond b (W (min u v) (max u v)) 0 ≤ 1
    by_test u v true e = le_of_eq (joined_has (λ x. x ≡ 1) W u v ones e)
    by_test u v false e = omega arith

-- a layout that is read from edges of weight 1
module _ {n : ℕ} {es : List Edge} {W : ℕ → ℕ → ℕ} {o : List ℕ} (a : Accepted n es W o) (ones : All (λ e. edge_weight W e ≡ 1) es) where
  abbrev made : Layout
  made = layout_with n es (map (edge_weight W) es) o

  made_unit : Unit made.weights
  made_unit = weighed_unit (table_weighed es (within_mono n 64 a.few es a.within)) ones

  made_agrees : Agreeing made
  made_agrees = unit_agrees made (valid_read a) made_unit

  pub read_unit : T (unit_weighted made)
  read_unit = agrees_unit made made_agrees

  -- its crossings fit 32 bits
  few_crossings : crossings_of made < former_modulus
  unfolding weight
  few_crossings =
      let s = sound made (valid_read a) in
      let most = crossing_sum_bound n 1 (place_weight made) s.small
      (λ i j p q. made_unit.unit (at (vertex_order made) i) (at (vertex_order made) j)
      (lt_of_lt_of_le (at_lt s.permutation i (omega arith)) s.small) (lt_of_lt_of_le (at_lt s.permutation j q) s.small)) in
      omega (arith, crossings_rising made (valid_read a), most)

  -- forgotten, it is what it was
  pub made_formerly : forget made ≡ former_layout_with n es o
  unfolding weight
  made_formerly =
      ap (λ (c : ℕ). record { n = n; order = made.order; adjacency = made.adjacency; count = c })
      (mod-eq_of_lt (subst (λ (c : ℕ). c < former_modulus) (sym (count_true a)) few_crossings)
      ∙ same_crossings n o made.adjacency made.weights made_agrees)

-- ---- charts

ones_listed : (ws : List ℕ) → every (eqb 1) ws ≡ true → (f : Edge → ℕ) (es : List Edge) → ws ≡ map f es → All (λ e. f e ≡ 1) es
ones_listed ws t f es e = ones_all f es (sym (ap (every (eqb 1)) e) ∙ t)

module _ (s : List ℕ) (e : (read_of s).refusal ≡ 0) (t : every (eqb 1) (chart_weights s) ≡ true) where
  pub weights_one : All (λ x. edge_weight (chart_weight s) x ≡ 1) (chart_edges s)
  weights_one = ones_listed (chart_weights s) t (edge_weight (chart_weight s)) (chart_edges s) (accepted_weights s e).1

  -- a chart whose weights are ones, with field 57 or without it
  pub chart_unit : T (unit_weighted (read_of s).layout)
  chart_unit =
      subst (λ (l : Layout). T (unit_weighted l)) (sym (ap (λ (r : LayoutRead). r.layout) (read_is s e) ∙ layout_listed s e))
      (read_unit (accepted s e) weights_one)

ones : (k : ℕ) → every (eqb 1) (replicate k 1) ≡ true
unfolding every
ones zero = refl
ones (suc k) = ones k

-- "without it all weights are 1"
pub without_ones : (s : List ℕ) → has_weights s ≡ false → every (eqb 1) (chart_weights s) ≡ true
unfolding chart_weights
without_ones s e = rw e (ones (length (chart_edges s)))

-- ---- read as formerly

abbrev pub forget_read : LayoutRead → FormerRead
forget_read r = record { refusal = r.refusal; layout = forget r.layout }

-- three fields: no weights
pub no_fourth : (s : List ℕ) → same_list (tags_of s) chart_tags ≡ true → has_weights s ≡ false
unfolding has_weights
no_fourth s t = lt-leb 4 (length (fields_of s).fields) (omega (arith, fields_number s chart_tags t))

all_weigh : (k : ℕ) → every is_weight (replicate k 1) ≡ true
unfolding every is_weight
all_weigh zero = refl
all_weigh (suc k) = all_weigh k

all_there : (k : ℕ) → eqb (length {A = ℕ} (replicate k 1)) k ≡ true
all_there k = eq-eqb (length {A = ℕ} (replicate k 1)) k (length-replicate {A = ℕ} k 1)

module _ (s : List ℕ) (plain : same_list (tags_of s) weighted_tags ≡ false) where
  pub same_number : refusal (chart_checks s) ≡ refusal (former_chart_checks s)
  unfolding chart_checks former_chart_checks size_checks end_checks repeat_checks place_checks weight_checks chart_weights chart_edges refusal
  same_number = by_test (same_list (tags_of s) chart_tags) refl
    where
      by_test : (b : Bool) → same_list (tags_of s) chart_tags ≡ b → refusal (chart_checks s) ≡ refusal (former_chart_checks s)
      by_test true t =
          rw (
            t,
            no_fourth s t,
            all_there (length (edges_in (body_of s 1))),
            all_weigh (length (edges_in (body_of s 1))),
          )
      by_test false t = rw (t, plain)

  pub tags_plain : refusal (chart_checks s) ≡ 0 → same_list (tags_of s) chart_tags ≡ true
  unfolding chart_checks
  tags_plain z = from (all_pass (chart_numbered s) z)
    where
      from : All (λ c. c.passes ≡ true) (chart_checks s) → same_list (tags_of s) chart_tags ≡ true
      from (also _ (also _ (also tags _))) =
          sym (or-false (same_list (tags_of s) chart_tags)) ∙ ap (λ (b : Bool). same_list (tags_of s) chart_tags || b) (sym plain) ∙ tags

  -- an accepted one has no field 57
  pub plain_unit : (read_of s).refusal ≡ 0 → T (unit_weighted (read_of s).layout)
  plain_unit e = chart_unit s e (without_ones s (no_fourth s (tags_plain (sym (read_number s) ∙ e))))

-- ---- graphs in graph6

pub unit_ones : (es : List Edge) → All (λ e. edge_weight unit e ≡ 1) es
unit_ones [] = none
unit_ones (e ∷ es) = also {x = e} refl (unit_ones es)

module _ (s : List ℕ) where
  abbrev pub es : List Edge
  es = graph6_edges (graph6_size s) (graph6_data s)

  pub unit_layout : graph6_layout s ≡ layout_with (graph6_size s) es (map (edge_weight unit) es) (upto (graph6_size s))
  unfolding graph6_layout
  unit_layout = ap (λ (ws : List ℕ). layout_with (graph6_size s) es ws (upto (graph6_size s))) (unit_listed es)

  pub import_accepted : (import_of s).refusal ≡ 0 → Accepted (graph6_size s) es unit (upto (graph6_size s))
  import_accepted e = edges_accepted (graph6_size s) (graph6_data s) (imported_graph6 s e).few

  pub import_unit : (import_of s).refusal ≡ 0 → T (unit_weighted (import_of s).layout)
  import_unit e =
      subst (λ (l : Layout). T (unit_weighted l)) (sym (ap (λ (r : LayoutRead). r.layout) (import_is s e) ∙ unit_layout))
      (read_unit (import_accepted e) (unit_ones es))
