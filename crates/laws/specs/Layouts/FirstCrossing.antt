-- The shown crossing pair: when there is none, and that the pair shown are two edges of the layout that cross.
use Prim.Native.Nat.{ℕ, zero, suc, ◌+◌, ◌*◌, ◌<◌}
use Rattle.std.proofs.Common.{zero-add, zero-mul, mul-pos, arith, ◌∙◌, eq-eqb, ne_eqb, eqb-true}
use Rattle.std.specs.Prelude.{◌≡◌, Bool, cond, ◌&&◌, ◌||◌, length}
use Rattle.std.proofs.Math.Path.{refl, sym, ap, ap₂, subst}
use Rattle.std.proofs.Math.Bool.{true, false}
use mathlib.Core.List.{List, [], ◌∷◌}
use Rattle.std.proofs.Math.Dec.{T, eqb}
use Rattle.model.specs.declared.Edge.{Edge}
use Rattle.model.specs.declared.Layout.{Layout}
use Rattle.model.specs.Lists.{one, any, sum_over, sum_pairs}
use Rattle.model.specs.Crossings.{edges, crosses, edge_weight, crossing_weight, crossings}
use Rattle.model.specs.Layouts.{vertex_order, weight, crossings_of, valid}
use Rattle.model.specs.Checks.{refusal, by_refusal, checked, is_valid}
use Rattle.model.specs.Charts.{same_edge}
use Rattle.model.specs.Reading.{Shown, pair_with, or_else, first_pair, first_crossing_of}
use Rattle.laws.specs.Sums.Indicators.{T_true}
use Rattle.laws.specs.Sums.Lists.{All, none, also, all_mono}
use Rattle.laws.specs.Crossings.Edges.{weighted_positive}
use Rattle.laws.specs.Layouts.Weights.{valid_edges}

-- ---- what is said of a pair

-- an accepted search that found this pair, or no edge
unfoldable pub found : List Edge → Shown
found pair = record { refusal = 0; none = eqb (length pair) 0; pair = pair }

pub found_valid : (l : Layout) → T (valid l) → found (first_pair (vertex_order l) (edges l.n l.adjacency)) ≡ first_crossing_of l
unfolding found first_crossing_of checked by_refusal refusal is_valid
found_valid l t = rw (T_true (valid l) t)

-- ---- "It answers "none" exactly when no two links cross."

module _ (W : ℕ → ℕ → ℕ) (o : List ℕ) where
  abbrev Weighty : Edge → Type 0
  Weighty e = 0 < edge_weight W e

  -- whether a search finds nothing is whether the sum of the crossings is 0, where each edge weighs something
  pair_none : (e : Edge) → Weighty e → {fs : List Edge} → All Weighty fs → eqb (length (pair_with o e fs)) 0 ≡ eqb (sum_over (crossing_weight W o e) fs) 0
  unfolding pair_with sum_over crossing_weight one
  pair_none e p none = refl
  pair_none e p (also {x = f} {xs = fs} q qs) = by_test (crosses o e f) (pair_none e p qs)
    where
      rest : ℕ
      rest = sum_over (crossing_weight W o e) fs

      both : 0 < edge_weight W e * edge_weight W f
      both = mul-pos p q

      by_test : (b : Bool) → eqb (length (pair_with o e fs)) 0 ≡ eqb rest 0
          → eqb (length (cond b (e ∷ f ∷ []) (pair_with o e fs))) 0 ≡ eqb (one b * (edge_weight W e * edge_weight W f) + rest) 0
      by_test true h = sym (ne_eqb (1 * (edge_weight W e * edge_weight W f) + rest) 0 (λ z. omega (arith, both)))
      by_test false h = h ∙ ap (λ (x : ℕ). eqb x 0) (sym (ap (λ (x : ℕ). x + rest) (zero-mul (edge_weight W e * edge_weight W f)) ∙ zero-add rest))

  or_none : (p q : List Edge) → eqb (length (or_else p q)) 0 ≡ (eqb (length p) 0 && eqb (length q) 0)
  unfolding or_else
  or_none [] q = refl
  or_none (e ∷ es) q = rw (ne_eqb (suc (length es)) 0 (λ z. omega arith))

  sum_none : (a b : ℕ) → eqb (a + b) 0 ≡ (eqb a 0 && eqb b 0)
  sum_none zero b = ap (λ (x : ℕ). eqb x 0) (zero-add b)
  sum_none (suc a) b = rw (ne_eqb (suc a) 0 (λ z. omega arith), ne_eqb (suc a + b) 0 (λ z. omega arith))

  first_none : {es : List Edge} → All Weighty es → eqb (length (first_pair o es)) 0 ≡ eqb (sum_pairs (crossing_weight W o) es) 0
  unfolding first_pair sum_pairs
  first_none none = refl
  first_none (also {x = e} {xs = es} p ps) =
      or_none (pair_with o e es) (first_pair o es)
      ∙ ap₂ (λ (a b : Bool). a && b) (pair_none e p ps) (first_none ps)
      ∙ sym (sum_none (sum_over (crossing_weight W o e) es) (sum_pairs (crossing_weight W o) es))

module _ (l : Layout) (t : T (valid l)) where
  pub none_exactly : (first_crossing_of l).none ≡ eqb (crossings_of l) 0
  unfolding found crossings_of crossings
  none_exactly =
      ap (λ (s : Shown). s.none) (sym (found_valid l t))
      ∙ ap (λ (es : List Edge). eqb (length (first_pair (vertex_order l) es)) 0) (sym (valid_edges l t))
      ∙ first_none (weight l) (vertex_order l) (weighted_positive l.n (weight l))

  pub none_said : (first_crossing_of l).none ≡ true → crossings_of l ≡ 0
  none_said e = eqb-true (crossings_of l) 0 (sym none_exactly ∙ e)

  pub none_to_say : crossings_of l ≡ 0 → (first_crossing_of l).none ≡ true
  none_to_say e = none_exactly ∙ eq-eqb (crossings_of l) 0 e

-- ---- a pair that is shown crosses, and both are edges of the layout

-- the entries of a list are among its entries
pub self_same : (e : Edge) → same_edge e e ≡ true
unfolding same_edge
self_same e = rw (eq-eqb e.low e.low refl, eq-eqb e.high e.high refl)

or_later : (a b : Bool) → T b → T (a || b)
or_later true b t = tt
or_later false b t = t

all_entries : (es : List Edge) → All (λ f. T (any (same_edge f) es)) es
unfolding any
all_entries [] = none
all_entries (e ∷ es) = also {x = e} (rw (self_same e) tt) (all_mono (all_entries es) (λ f t. or_later (same_edge f e) (any (same_edge f) es) t))

-- no edge, or two of es that cross
pub data Crossing (o : List ℕ) (es : List Edge) : List Edge → Type 0 where
  nothing : Crossing o es []
  two : {e f : Edge} → T (crosses o e f) → T (any (same_edge e) es) → T (any (same_edge f) es) → Crossing o es (e ∷ f ∷ [])

module _ (o : List ℕ) (es : List Edge) where
  pair_crosses : (e : Edge) {fs : List Edge} → T (any (same_edge e) es) → All (λ f. T (any (same_edge f) es)) fs → Crossing o es (pair_with o e fs)
  unfolding pair_with
  pair_crosses e in_e none = nothing
  pair_crosses e in_e (also {x = f} {xs = fs} in_f in-fs) = by_test (crosses o e f) refl (pair_crosses e in_e in-fs)
    where
      by_test : (b : Bool) → crosses o e f ≡ b → Crossing o es (pair_with o e fs) → Crossing o es (cond b (e ∷ f ∷ []) (pair_with o e fs))
      by_test true h r = two (subst T (sym h) tt) in_e in_f
      by_test false h r = r

  or_crosses : {p q : List Edge} → Crossing o es p → Crossing o es q → Crossing o es (or_else p q)
  unfolding or_else
  or_crosses nothing s = s
  or_crosses (two t i j) s = two t i j

  first_crosses : {fs : List Edge} → All (λ f. T (any (same_edge f) es)) fs → Crossing o es (first_pair o fs)
  unfolding first_pair
  first_crosses none = nothing
  first_crosses (also {x = f} in_f in-fs) = or_crosses (pair_crosses f in_f in-fs) (first_crosses in-fs)

-- two edges of a layout that cross
pub record CrossingPair (l : Layout) (e f : Edge) : Type 0 where
  pub cross : T (crosses (vertex_order l) e f)
  pub first : T (any (same_edge e) (edges l.n l.adjacency))
  pub second : T (any (same_edge f) (edges l.n l.adjacency))

module _ (l : Layout) (t : T (valid l)) where
  pub shown_crossing : Crossing (vertex_order l) (edges l.n l.adjacency) (first_crossing_of l).pair
  unfolding found
  shown_crossing =
      let es = edges l.n l.adjacency in
      subst (λ (s : Shown). Crossing (vertex_order l) es s.pair) (found_valid l t) (first_crosses (vertex_order l) es (all_entries es))

  pub shown_crosses : {e f : Edge} → (first_crossing_of l).pair ≡ e ∷ f ∷ [] → CrossingPair l e f
  shown_crosses h = the_two (subst (Crossing (vertex_order l) (edges l.n l.adjacency)) h shown_crossing)
    where
      the_two : {e f : Edge} → Crossing (vertex_order l) (edges l.n l.adjacency) (e ∷ f ∷ []) → CrossingPair l e f
      the_two (two t i j) = record { cross = t; first = i; second = j }
