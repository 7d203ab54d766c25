-- The crossings of the model, over any weight of the edges: counted pair by pair, they are the sum over rising places (the counting identity).
use Prim.Native.Nat.{ℕ, zero, suc, ◌*◌, ◌<◌}
use Rattle.std.proofs.Common.{mul_assoc, mul_comm, one-mul, ◌∙◌}
use Rattle.std.proofs.Math.Decide.{ℕ_discrete}
use native.Mathlib.Omega.{arith}
use Rattle.std.specs.Prelude.{◌≡◌, Bool, true, ◌&&◌, List, map, eqb, ltb}
use Rattle.std.proofs.Math.Path.{sym, ap, ap₂}
use borrow.Author.Tests.{eq-eqb, ne_eqb, lt-ltb, ltb-true}
use Rattle.model.specs.declared.Edge.{Edge}
use Rattle.model.specs.Lists.{one, upto, any, keep, sum_over, no_repeats, place}
use Rattle.model.specs.Crossings.{linked, edges_by, edges, crosses, unit_weight, adjacent, weighted_edges, edge_weight, crossing_weight, crossings}
use Rattle.model.specs.Charts.{edge_within}
use Rattle.model.specs.EdgeCrossings.{crossings_with}
use Rattle.laws.specs.Sums.Indicators.{one_and, one_lt, both_left, both_right}
use Rattle.laws.specs.Sums.Ranges.{halves, sum, sum_ext}
use Rattle.laws.specs.Sums.Lists.{All, all_mono, all_upto, all_kept, all_map, all_flat_map, sum_over_keep, sum_over_upto, sum_over_map, sum_over_flat_map}
use Rattle.laws.specs.Sums.Lists.{sum_pairs_twice, sum_over_ext, sum_over_scale}
use Rattle.laws.specs.Orders.Permutations.{at, Permutation, at_of_place}
use Rattle.laws.specs.Sums.Pairs.{pair_sum, pair_sum_ext, pair_sum_scale, Symmetric}
use Rattle.laws.specs.Crossings.Alternation.{cross, cross_exchange, cross_self}
use Rattle.laws.specs.Crossings.Counting.{crossed_twice, crossing_sum, placed, twice_places, twice_rising, parts_sum}

abbrev pub edge : ℕ → ℕ → Edge
edge a b = record { low = a; high = b }

-- ---- sums over edges

-- a sum over the edges of which a test tells is a sum over the pairs of vertices
sum_over_listed : (n : ℕ) (to : ℕ → ℕ → Bool) (g : Edge → ℕ) → sum_over g (edges_by n to) ≡ pair_sum n (λ a b. one (to a b) * g (edge a b))
unfolding pair_sum
sum_over_listed n to g =
    sum_over_flat_map g row (upto n)
    ∙ sum_over_upto (λ a. sum_over g (row a)) n
    ∙ sum_ext n (λ a. sum_over g (row a)) (λ a. sum n (λ b. one (ltb a b) * (one (to a b) * g (edge a b)))) (λ a l. in_row a)
  where
    higher : ℕ → ℕ → Bool
    higher a b = ltb a b && to a b

    row : ℕ → List Edge
    row a = map (edge a) (keep (higher a) (upto n))

    in_row : (a : ℕ) → sum_over g (row a) ≡ sum n (λ b. one (ltb a b) * (one (to a b) * g (edge a b)))
    in_row a =
        sum_over_map g (edge a) (keep (higher a) (upto n))
        ∙ sum_over_keep (λ b. g (edge a b)) (higher a) (upto n)
        ∙ sum_over_upto (λ b. one (higher a b) * g (edge a b)) n
        ∙ sum_ext n (λ b. one (higher a b) * g (edge a b)) (λ b. one (ltb a b) * (one (to a b) * g (edge a b)))
        (λ b l. rw (one_and (ltb a b) (to a b)) (mul_assoc (one (ltb a b)) (one (to a b)) (g (edge a b))))

-- of the words
pub sum_over_edges : (n : ℕ) (adj : List ℕ) (g : Edge → ℕ) → sum_over g (edges n adj) ≡ pair_sum n (λ a b. unit_weight adj a b * g (edge a b))
unfolding edges
sum_over_edges n adj g = sum_over_listed n (linked adj) g

-- by weight: where nothing joins them, the weight is 0
weighed : (w x : ℕ) → one (ltb 0 w) * (w * x) ≡ w * x
unfolding one
weighed zero x = omega arith
weighed (suc w) x = rw (one_lt 0 (suc w) (omega arith)) (one-mul (suc w * x))

pub sum_over_weighted : (n : ℕ) (W : ℕ → ℕ → ℕ) (h : Edge → ℕ)
    → sum_over (λ e. edge_weight W e * h e) (weighted_edges n W) ≡ pair_sum n (λ a b. W a b * h (edge a b))
unfolding weighted_edges adjacent
sum_over_weighted n W h =
    sum_over_listed n (adjacent W) (λ e. edge_weight W e * h e)
    ∙ pair_sum_ext n (λ a b. one (ltb 0 (W a b)) * (W a b * h (edge a b))) (λ a b. W a b * h (edge a b)) (λ a b i j. weighed (W a b) (h (edge a b)))

-- ---- their ends

-- each would pass question 6 of document 01: the lower end first, and the higher below n
listed_within : (n : ℕ) (to : ℕ → ℕ → Bool) → All (λ e. edge_within n e ≡ true) (edges_by n to)
unfolding edge_within
listed_within n to =
    all_flat_map (λ a. map (edge a) (keep (higher a) (upto n))) (all_upto n)
    (λ a l. all_map (λ e. edge_within n e ≡ true) (edge a) (all_kept (higher a) (all_upto n))
    (λ b h. ap₂ (λ (x y : Bool). x && y) (both_left (ltb a b) (to a b) h.1) (lt-ltb b n h.0)))
  where
    higher : ℕ → ℕ → Bool
    higher a b = ltb a b && to a b

pub edges_within : (n : ℕ) (adj : List ℕ) → All (λ e. edge_within n e ≡ true) (edges n adj)
unfolding edges
edges_within n adj = listed_within n (linked adj)

module _ (n : ℕ) (e : Edge) (h : edge_within n e ≡ true) where
  pub edge_rises : e.low < e.high
  unfolding edge_within
  edge_rises = ltb-true e.low e.high (both_left (ltb e.low e.high) (ltb e.high n) h)

  pub edge_below : e.high < n
  unfolding edge_within
  edge_below = ltb-true e.high n (both_right (ltb e.low e.high) (ltb e.high n) h)

-- so the ends are vertices
abbrev pub Within : ℕ → Edge → Type 0
Within n e = (e.low < n) × (e.high < n)

pub edge_ends : (n : ℕ) (e : Edge) → edge_within n e ≡ true → Within n e
edge_ends n e h = (omega (arith, edge_rises n e h, edge_below n e h), edge_below n e h)

pub all_edges : (n : ℕ) (adj : List ℕ) → All (Within n) (edges n adj)
all_edges n adj = all_mono (edges_within n adj) (edge_ends n)

pub all_weighted : (n : ℕ) (W : ℕ → ℕ → ℕ) → All (Within n) (weighted_edges n W)
unfolding weighted_edges
all_weighted n W = all_mono (listed_within n (adjacent W)) (edge_ends n)

-- and weigh something
pub weighted_positive : (n : ℕ) (W : ℕ → ℕ → ℕ) → All (λ e. 0 < edge_weight W e) (weighted_edges n W)
unfolding weighted_edges adjacent
weighted_positive n W =
    all_flat_map (λ a. map (edge a) (keep (higher a) (upto n))) (all_upto n)
    (λ a l. all_map (λ e. 0 < edge_weight W e) (edge a) (all_kept (higher a) (all_upto n))
    (λ b h. ltb-true 0 (W a b) (both_right (ltb a b) (adjacent W a b) h.1)))
  where
    higher : ℕ → ℕ → Bool
    higher a b = ltb a b && adjacent W a b

module _ {n : ℕ} {o : List ℕ} (perm : Permutation n o) where
  -- different vertices have different places
  pub eqb_place : (u v : ℕ) → u < n → v < n → eqb u v ≡ eqb (place o u) (place o v)
  eqb_place u v a b =
      elim (ℕ_discrete u v) [
        | yes e ↦ eq-eqb u v e ∙ sym (eq-eqb (place o u) (place o v) (ap (place o) e))
        | no d ↦
            ne_eqb u v d
            ∙ sym (ne_eqb (place o u) (place o v) (λ e. d (sym (at_of_place perm u a) ∙ ap (at o) e ∙ at_of_place perm v b)))
      ]

  -- whether two edges cross, by the places of their ends
  pub crosses_places : (e f : Edge) → Within n e → Within n f
      → one (crosses o e f) ≡ cross (place o e.low) (place o e.high) (place o f.low) (place o f.high)
  unfolding crosses cross no_repeats any
  crosses_places e f p q =
      rw (
        eqb_place e.low e.high p.0 p.1,
        eqb_place e.low f.low p.0 q.0,
        eqb_place e.low f.high p.0 q.1,
        eqb_place e.high f.low p.1 q.0,
        eqb_place e.high f.high p.1 q.1,
        eqb_place f.low f.high q.0 q.1,
      )

  module _ (W : ℕ → ℕ → ℕ) where
    abbrev drawn_edges : List Edge
    drawn_edges = weighted_edges n W

    -- the crossings that each edge takes part in, summed, are the crossings twice
    pub edges_twice : sum_over (crossings_with W o drawn_edges) drawn_edges ≡ 2 * crossings n o W
    unfolding crossings crossings_with crossing_weight
    edges_twice =
        sym
        (sum_pairs_twice (crossing_weight W o) (all_weighted n W)
        (λ e f p q.
        ap₂ (λ (x y : ℕ). x * y)
        (crosses_places e f p q ∙ cross_exchange (place o e.low) (place o e.high) (place o f.low) (place o f.high) ∙ sym
        (crosses_places f e q p))
        (mul_comm (edge_weight W e) (edge_weight W f)))
        (λ e p. rw (crosses_places e e p p ∙ cross_self (place o e.low) (place o e.high)) (omega arith)))

    -- those of one edge, over the pairs of vertices
    pub edge_crossed : (e : Edge) → Within n e
        → crossings_with W o drawn_edges e ≡ edge_weight W e * pair_sum n (λ c d. W c d * cross (place o e.low) (place o e.high) (place o c) (place o d))
    unfolding crossings_with crossing_weight
    edge_crossed e p =
        (λ i. sum_over (λ f. regroup (one (crosses o e f)) (edge_weight W e) (edge_weight W f) i) drawn_edges)
        ∙ sum_over_scale (edge_weight W e) (λ f. edge_weight W f * one (crosses o e f)) drawn_edges
        ∙ ap (λ (x : ℕ). edge_weight W e * x)
        (sum_over_weighted n W (λ f. one (crosses o e f))
        ∙ pair_sum_ext n (λ c d. W c d * one (crosses o e (edge c d)))
        (λ c d. W c d * cross (place o e.low) (place o e.high) (place o c) (place o d))
        (λ c d k l. ap (λ (x : ℕ). W c d * x) (crosses_places e (edge c d) p (omega arith, l))))
      where
        regroup : (x y z : ℕ) → x * (y * z) ≡ y * (z * x)
        regroup x y z = omega arith

    -- the crossings counted pair by pair, twice
    pub crossings_twice : 2 * crossings n o W ≡ crossed_twice n W (place o)
    unfolding crossed_twice
    crossings_twice =
        sym edges_twice
        ∙ sum_over_ext (crossings_with W o drawn_edges) (λ e. edge_weight W e * met e) (all_weighted n W) edge_crossed
        ∙ sum_over_weighted n W met
        ∙ pair_sum_ext n (λ a b. W a b * met (edge a b)) (λ a b. pair_sum n (term a b)) inner
      where
        met : Edge → ℕ
        met e = pair_sum n (λ c d. W c d * cross (place o e.low) (place o e.high) (place o c) (place o d))

        term : ℕ → ℕ → ℕ → ℕ → ℕ
        term a b c d = W a b * W c d * cross (place o a) (place o b) (place o c) (place o d)

        inner : (a b : ℕ) → a < b → b < n → W a b * met (edge a b) ≡ pair_sum n (term a b)
        inner a b i j =
            sym (pair_sum_scale n (W a b) (λ c d. W c d * cross (place o a) (place o b) (place o c) (place o d)))
            ∙ pair_sum_ext n (λ c d. W a b * (W c d * cross (place o a) (place o b) (place o c) (place o d))) (term a b)
            (λ c d k l. sym (mul_assoc (W a b) (W c d) (cross (place o a) (place o b) (place o c) (place o d))))

    -- the crossings counted pair by pair are the sum over rising places
    pub crossings_sum : Symmetric n W → crossings n o W ≡ crossing_sum n (placed o W)
    crossings_sum s =
        halves (crossings n o W) (crossing_sum n (placed o W))
        (crossings_twice
        ∙ twice_places perm W s
        ∙ twice_rising n (placed o W)
        ∙ ap (λ (x : ℕ). 2 * x) (parts_sum n (placed o W)))
