-- What reading a chart gives: a valid layout with its true crossings, whatever the sequence in which the edges are written.
use Rattle.std.specs.Prelude.{ℕ, ◌≡◌, refl, Bool, true, ◌&&◌, ◌||◌, length, T, eqb, leb}
use Rattle.std.proofs.Common.{sym, ap, ap₂, ◌∙◌, subst, lit<, leb-true, eqb-true}
use mathlib.Core.List.{List, [], ◌∷◌, map, flat_map}
use Rattle.model.specs.declared.Edge.{Edge}
use Rattle.model.specs.Answers.{LayoutRead}
use Rattle.model.specs.declared.Layout.{Layout}
use Rattle.model.specs.Lists.{one, upto, every, any, keep, sum_pairs, no_repeats}
use Rattle.model.specs.Crossings.{weighted_edges, edge_weight, crossings}
use Rattle.model.specs.Layouts.{empty_layout, vertex_order, crossings_of, each_once, zero_from, symmetric, loopless, bits_below}
use Rattle.model.specs.Layouts.{even_weights, weighs_edges, blank_from, weights_fit, valid}
use Rattle.model.specs.Checks.{refusal}
use Rattle.model.specs.Charts.{body_of, chart_size, chart_edges, chart_order, same_edge, edge_within, joins, chart_checks}
use Rattle.model.specs.Charts.{size_checks, end_checks, repeat_checks, place_checks, chart_weights, weight_checks, edges_in, table_in, layout_with, chart_layout, read_of}
use Rattle.laws.specs.Sums.Lists.{All, none, also}
use Rattle.laws.specs.Layouts.Sizes.{Sized}
use Rattle.laws.specs.Layouts.Refusals.{Numbered, all_pass}
use Rattle.laws.specs.Sums.Indicators.{both_left, both_right, eqb_swap}
use Rattle.laws.specs.Charts.Ends.{edge, within_mono}
use Rattle.laws.specs.Charts.Weights.{listed_weight, listed_weights, listed_weigh, table_size, same_tables}
use Rattle.laws.specs.Charts.Words.{adjacency_of, adjacency_length, adjacency_bit, adjacency_lt, adjacency_ext}
use Rattle.laws.specs.Charts.Padded.{padded_length}
use Rattle.laws.specs.Charts.Layouts.{Accepted, valid_read, count_true}
use Rattle.laws.specs.Charts.Passes.{accepted_read, refused_read, read_as_number, read_as_accepted, read_as_refused, read_as_sized}

-- ---- an accepted chart

pub read_number : (s : List ℕ) → (read_of s).refusal ≡ refusal (chart_checks s)
unfolding read_of
read_number s = read_as_number (chart_checks s) (chart_layout s)

pub read_is : (s : List ℕ) → (read_of s).refusal ≡ 0 → read_of s ≡ accepted_read (chart_layout s)
unfolding read_of
read_is s e = read_as_accepted (chart_checks s) (chart_layout s) e

pub chart_numbered : (s : List ℕ) → Numbered (chart_checks s)
unfolding chart_checks size_checks end_checks repeat_checks place_checks weight_checks
chart_numbered s =
    also (lit< tt) (also (lit< tt) (also (lit< tt) (also (lit< tt) (also (lit< tt)
    (also (lit< tt) (also (lit< tt) (also (lit< tt) (also (lit< tt) (also (lit< tt) none)))))))))

-- the weight of an edge of the chart, by its ends
abbrev pub chart_weight : List ℕ → ℕ → ℕ → ℕ
chart_weight s = listed_weight (chart_edges s) (chart_weights s)

-- what the questions ask, and that the weights are those of the edges
pub accepted_weights : (s : List ℕ) → (read_of s).refusal ≡ 0
    → Accepted (chart_size s) (chart_edges s) (chart_weight s) (chart_order s) × (chart_weights s ≡ map (edge_weight (chart_weight s)) (chart_edges s))
unfolding chart_checks size_checks end_checks repeat_checks place_checks weight_checks chart_edges chart_order chart_size
accepted_weights s e = from (all_pass (chart_numbered s) (sym (read_number s) ∙ e))
  where
    from : All (λ c. c.passes ≡ true) (chart_checks s)
        → Accepted (chart_size s) (chart_edges s) (chart_weight s) (chart_order s) × (chart_weights s ≡ map (edge_weight (chart_weight s)) (chart_edges s))
    from (also _ (also _ (also _ (also size (also _ (also ends (also once (also places (also many (also weights none)))))))))) =
        let long = eqb-true (length (chart_weights s)) (length (edges_in (body_of s 1))) many in (
          record {
            few = leb-true (chart_size s) 64 (both_right (eqb (length (body_of s 0)) 1) (leb (chart_size s) 64) size);
            within = ends;
            long = eqb-true (length (body_of s 2)) (chart_size s)
                (both_left (eqb (length (body_of s 2)) (chart_size s)) (each_once (chart_size s) (body_of s 2)) places);
            each = both_right (eqb (length (body_of s 2)) (chart_size s)) (each_once (chart_size s) (body_of s 2)) places;
            weighs = listed_weigh (chart_edges s) (chart_weights s) long once weights;
          },
          listed_weights (chart_edges s) (chart_weights s) long once,
        )

pub layout_listed : (s : List ℕ) → (read_of s).refusal ≡ 0
    → chart_layout s ≡ layout_with (chart_size s) (chart_edges s) (map (edge_weight (chart_weight s)) (chart_edges s)) (chart_order s)
unfolding chart_layout
layout_listed s e = ap (λ (ws : List ℕ). layout_with (chart_size s) (chart_edges s) ws (chart_order s)) (accepted_weights s e).1

-- no edge is written twice
pub accepted_once : (s : List ℕ) → (read_of s).refusal ≡ 0 → no_repeats same_edge (chart_edges s) ≡ true
unfolding chart_checks size_checks end_checks repeat_checks place_checks weight_checks chart_edges
accepted_once s e = from (all_pass (chart_numbered s) (sym (read_number s) ∙ e))
  where
    from : All (λ c. c.passes ≡ true) (chart_checks s) → no_repeats same_edge (chart_edges s) ≡ true
    from (also _ (also _ (also _ (also _ (also _ (also _ (also once _))))))) = once

pub accepted : (s : List ℕ) → (read_of s).refusal ≡ 0 → Accepted (chart_size s) (chart_edges s) (chart_weight s) (chart_order s)
accepted s e = (accepted_weights s e).0

-- "a ring read from a chart its true crossings"
pub read_valid : (s : List ℕ) → (read_of s).refusal ≡ 0 → T (valid (read_of s).layout) × ((read_of s).layout.count ≡ crossings_of (read_of s).layout)
unfolding chart_layout
read_valid s e =
    subst (λ (l : Layout). T (valid l) × (l.count ≡ crossings_of l)) (sym (ap (λ (r : LayoutRead). r.layout) (read_is s e)))
    (subst (λ (l : Layout). T (valid l) × (l.count ≡ crossings_of l)) (sym (layout_listed s e)) (valid_read (accepted s e), count_true (accepted s e)))

-- ---- a refused chart gives the empty layout, which is valid with its true crossings too

pub empty_valid : T (valid empty_layout)
unfolding valid empty_layout vertex_order each_once zero_from symmetric loopless bits_below weights_fit even_weights weighs_edges blank_from every keep upto
empty_valid = tt

pub empty_count : empty_layout.count ≡ crossings_of empty_layout
unfolding empty_layout crossings_of vertex_order crossings weighted_edges sum_pairs upto flat_map
empty_count = refl

pub read_refused : (s : List ℕ) → ((read_of s).refusal ≡ 0 → ⊥) → read_of s ≡ refused_read (read_of s).refusal
unfolding read_of
read_refused s d = read_as_refused (chart_checks s) (chart_layout s) d

-- the arrays of a layout that is read have their places
pub read_sized : (s : List ℕ) → Sized (read_of s).layout
unfolding read_of chart_layout
read_sized s =
    read_as_sized (chart_checks s) (chart_layout s)
    (record { places = padded_length (chart_order s); words = adjacency_length (chart_edges s); table = table_size (chart_edges s) (chart_weights s) })

-- ---- the same edges, in another sequence or with ends exchanged

pub same_edge_swap : (e f : Edge) → same_edge e f ≡ same_edge f e
unfolding same_edge
same_edge_swap e f = ap₂ (λ (x y : Bool). x && y) (eqb_swap e.low f.low) (eqb_swap e.high f.high)

pub joins_member : (u v : ℕ) (es : List Edge) → any (joins u v) es ≡ any (same_edge (edge u v)) es
unfolding any joins edge
joins_member u v [] = refl
joins_member u v (e ∷ es) = ap₂ (λ (x y : Bool). x || y) (same_edge_swap e (edge u v)) (joins_member u v es)

pub same_words : (es fs : List Edge) → ((e : Edge) → any (same_edge e) es ≡ any (same_edge e) fs) → adjacency_of es ≡ adjacency_of fs
same_words es fs h =
    adjacency_ext (adjacency_of es) fs (adjacency_length es) (adjacency_lt es)
    (λ u v a b. adjacency_bit es u v a b ∙ ap one (joins_member u v es ∙ h (edge u v) ∙ sym (joins_member u v fs)))

pub same_layouts : (s t : List ℕ) → chart_size s ≡ chart_size t → chart_order s ≡ chart_order t → adjacency_of (chart_edges s) ≡ adjacency_of (chart_edges t)
    → table_in (chart_edges s) (chart_weights s) ≡ table_in (chart_edges t) (chart_weights t) → chart_layout s ≡ chart_layout t
unfolding chart_layout
same_layouts s t sizes orders words tables = rw (sizes, orders, words, tables)

-- two accepted charts of the same vertices, order, edges and weights give the same layout
pub same_charts : (s t : List ℕ) → (read_of s).refusal ≡ 0 → (read_of t).refusal ≡ 0 → chart_size s ≡ chart_size t → chart_order s ≡ chart_order t
    → ((e : Edge) → any (same_edge e) (chart_edges s) ≡ any (same_edge e) (chart_edges t))
    → ((e : Edge) → edge_weight (chart_weight s) e ≡ edge_weight (chart_weight t) e) → read_of s ≡ read_of t
same_charts s t p q sizes orders edges weights =
    let first = accepted_weights s p in
    let second = accepted_weights t q in
    read_is s p
    ∙ ap (λ (l : Layout). record { refusal = 0; layout = l })
    (same_layouts s t sizes orders (same_words (chart_edges s) (chart_edges t) edges)
    (ap (table_in (chart_edges s)) first.1
    ∙ same_tables (chart_weight s) (chart_weight t) (chart_edges s) (chart_edges t) (inside first.0) (inside second.0)
    (λ u v. joins_member u v (chart_edges s) ∙ edges (edge u v) ∙ sym (joins_member u v (chart_edges t)))
    (λ a b. weights (record { low = a; high = b }))
    ∙ sym (ap (table_in (chart_edges t)) second.1)))
    ∙ sym (read_is t q)
  where
    inside : {n : ℕ} {es : List Edge} {W : ℕ → ℕ → ℕ} {o : List ℕ} → Accepted n es W o → every (edge_within 64) es ≡ true
    inside {n} {es} a = within_mono n 64 a.few es a.within
