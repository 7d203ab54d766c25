-- How many candidate places of a sifted vertex have the least crossings: what the number says, and that it and its sums are small.
use Prim.Native.Nat.{ℕ, suc, ◌-◌, ◌*◌, ◌≤◌, ◌<◌}
use Rattle.std.proofs.Common.{zero-add, arith, ◌∙◌, eq-eqb, ne_eqb}
use Rattle.std.specs.Prelude.{◌≡◌, Bool, true, false, not, ◌&&◌, List, length, T, eqb}
use Rattle.std.proofs.Math.Path.{refl, sym, ap}
use Rattle.std.proofs.Math.ListN.{length-map, get_or-map}
use Rattle.std.proofs.lemmas.Bool.{eqb-false}
use Rattle.model.specs.declared.Layout.{Layout}
use Rattle.model.specs.Lists.{one, upto, sum_over}
use Rattle.model.specs.Layouts.{vertex_order, weight, crossings_of, valid, reordered}
use Rattle.model.specs.Edits.{moved_after, move_of}
use Rattle.model.specs.Crossings.{crossings}
use Rattle.model.specs.Search.{Sift, count_with, sift_best, best_candidates, sifts_of_all}
use Rattle.model.specs.Sifting.{sifted, sift_on, optima_of}
use Rattle.model.specs.Sifting.{ring, clockwise_from, candidate_layouts, optima_at, optima_in, sift_round, swept}
use Rattle.model.specs.Histories.{places_with}
use Rattle.laws.specs.Sums.Lists.{All, all_map, all_mono, all_upto, length_upto, sum_over_ext, sum_over_map, sum_over_most, all_at}
use Rattle.laws.specs.Orders.Permutations.{at, Permutation, order_sum}
use Rattle.laws.specs.Layouts.Validity.{sound, valid_symmetric}
use Rattle.laws.specs.Orders.Moves.{moved_permutation, moved_again}
use Rattle.laws.specs.Layouts.Reordering.{move_layout, move_crossings, reordered_order, reordered_crossings}
use Rattle.laws.specs.Sifting.LocalSearch.{least_stays, chosen_has}
use Rattle.laws.specs.Sifting.Sweeps.{sift_best_lem, still_below}
use Rattle.laws.specs.Sifting.Sweeps.{none_less, best_most, best_some, sifts_proper, sifts_length}
use Rattle.laws.specs.Sifting.Candidates.{clockwise_sum, clockwise_others, clockwise_length, Rearranged, sifted_rearranged, rearranged_weight}
use Rattle.laws.specs.Sifting.Walk.{last_stays}
use Rattle.laws.specs.Sifting.Rounds.{Valid, ProperSift, to_moves, lawful, proper_sift, sift_all}

module _ {x : Sift Layout} (p : ProperSift x) where
  -- the layout with the vertex moved behind v, and the vertices that it can be moved behind
  abbrev behind : ℕ → Layout
  behind v = reordered x.before (moved_after x.vertex v (vertex_order x.before))

  abbrev others : List ℕ
  others = clockwise_from x.vertex (vertex_order x.before)

  in_order : Permutation x.before.n (vertex_order x.before)
  in_order = (sound x.before p.valid_before).permutation

  others_length : suc (length others) ≡ x.before.n
  others_length = clockwise_length in_order x.vertex p.vertex_below

  candidates_length : length (candidate_layouts x.vertex x.before) ≡ length others
  unfolding candidate_layouts
  candidates_length = length-map others behind

  -- no place of the layout before has fewer crossings than the sift reached
  pub optima_least : (v : ℕ) → v < x.before.n → (x.vertex ≡ v → ⊥) → crossings_of x.after ≤ crossings_of (move_of x.before x.vertex v).layout
  optima_least =
      to_moves x.before p.valid_before x.vertex p.vertex_below (crossings_of x.after)
      (none_less ring Valid p)

  -- the number is that of the places that have as many
  pub optima_counted : optima_at x ≡ places_with x.before x.vertex (crossings_of x.after)
  unfolding best_candidates candidate_layouts places_with count_with one
  optima_counted =
      ap (λ (j : ℕ). count_with crossings_of j (candidate_layouts x.vertex x.before)) (sym p.least_cost_lem)
      ∙ sum_over_map (λ c. one (eqb (crossings_of c) k)) behind others
      ∙ sum_over_ext (λ v. one (eqb (crossings_of (behind v)) k)) has (clockwise_others in_order x.vertex p.vertex_below) (λ v q. another v q.0 q.1)
      ∙ sym (order_sum in_order has ∙ clockwise_sum in_order x.vertex p.vertex_below has ∙ rw itself (zero-add (sum_over has others)))
    where
      k : ℕ
      k = crossings_of x.after

      has : ℕ → ℕ
      has v = one (not (eqb x.vertex v) && eqb (crossings_of (move_of x.before x.vertex v).layout) k)

      itself : has x.vertex ≡ 0
      itself = rw (eq-eqb x.vertex x.vertex refl)

      another : (v : ℕ) → v < x.before.n → (x.vertex ≡ v → ⊥) → one (eqb (crossings_of (behind v)) k) ≡ has v
      another v m d = rw (ne_eqb x.vertex v d, move_layout x.before p.valid_before x.vertex p.vertex_below v m d) refl

  -- fewer than there are vertices
  pub optima_below : optima_at x < x.before.n
  optima_below = omega (arith, best_most ring x.before x.vertex, candidates_length, others_length)

  -- with two vertices or more some: the present place is a candidate, the last one
  pub optima_some : 2 ≤ x.before.n → 1 ≤ optima_at x
  unfolding crossings_of candidate_layouts
  optima_some two =
      let last = x.before.n - 2 in
      let other = all_at 0 (clockwise_others in_order x.vertex p.vertex_below) last (omega (arith, others_length)) in
      best_some ring x.before x.vertex (behind 0) last (omega (arith, candidates_length, others_length))
      (ap crossings_of (get_or-map behind others last 0)
      ∙ reordered_crossings x.before (moved_after x.vertex (at others last) (vertex_order x.before))
      (moved_permutation in_order x.vertex p.vertex_below (at others last) other.0 other.1).size
      ∙ last_stays in_order (weight x.before) (valid_symmetric x.before p.valid_before) x.vertex p.vertex_below two)

-- ---- sifted again, a vertex has as many best places: it can be moved to the same ones

same_crossings : {n m : ℕ} {o p : List ℕ} {W U : ℕ → ℕ → ℕ} → n ≡ m → o ≡ p → W ≡ U → crossings n o W ≡ crossings m p U
same_crossings a b c = rw (a, b, c) refl

module _ (l : Layout) (t : T (valid l)) (u : ℕ) (h : u < l.n) where
  rearranged : Rearranged l (sifted l u)
  rearranged = sifted_rearranged l t u h

  once : ProperSift (sift_on l u)
  once = proper_sift l t u h

  twice : ProperSift (sift_on (sifted l u) u)
  twice = proper_sift (sifted l u) rearranged.valid_after u (still_below ring Valid once)

  same_places : (v : ℕ) → moved_after u v (vertex_order (sifted l u)) ≡ moved_after u v (vertex_order l)
  unfolding sift_best candidate_layouts
  same_places v =
      chosen_has crossings_of l (candidate_layouts u l) {P = λ c. moved_after u v (vertex_order c) ≡ moved_after u v (vertex_order l)} refl
      (all_map (λ c. moved_after u v (vertex_order c) ≡ moved_after u v (vertex_order l)) (λ w. reordered l (moved_after u w (vertex_order l)))
      (clockwise_others (sound l t).permutation u h)
      (λ w p.
      ap (moved_after u v)
      (reordered_order l (moved_after u w (vertex_order l)) (moved_permutation (sound l t).permutation u h w p.0 p.1).size)
      ∙ moved_again u w v (vertex_order l)))

  same_behind : (v : ℕ) → v < l.n → (u ≡ v → ⊥) → crossings_of (move_of (sifted l u) u v).layout ≡ crossings_of (move_of l u v).layout
  same_behind v m d =
      move_crossings (sifted l u) rearranged.valid_after u (still_below ring Valid once) v (rw rearranged.same_n m) d
      ∙ same_crossings rearranged.same_n (same_places v) (rearranged_weight rearranged)
      ∙ sym (move_crossings l t u h v m d)

  -- nothing is left to gain
  same_reached : crossings_of (sifted (sifted l u) u) ≡ crossings_of (sifted l u)
  same_reached = twice.least_cost_lem ∙ least_stays crossings_of (crossings_of (sifted l u)) (sift_best_lem ring Valid once)

  pub optima_again : optima_of (sifted l u) u ≡ optima_of l u
  unfolding places_with
  optima_again =
      optima_counted twice
      ∙ ap (places_with (sifted l u) u) same_reached
      ∙ ap (λ (n : ℕ). sum_over (has (sifted l u)) (upto n)) rearranged.same_n
      ∙ sum_over_ext (has (sifted l u)) (has l) (all_upto l.n) (λ v m. by_test (eqb u v) (λ e. same_behind v m (eqb-false u v e)))
      ∙ sym (optima_counted once)
    where
      level : ℕ
      level = crossings_of (sifted l u)

      has : Layout → ℕ → ℕ
      has m v = one (not (eqb u v) && eqb (crossings_of (move_of m u v).layout) level)

      by_test : {j k : ℕ} (b : Bool) → (b ≡ false → j ≡ k) → one (not b && eqb j level) ≡ one (not b && eqb k level)
      by_test true e = refl
      by_test false e = ap (λ (j : ℕ). one (eqb j level)) (e refl)

-- ---- the sums of a round and of a settling

-- the most of a round: 63 places for each of 64 vertices
abbrev pub most_optima : ℕ
most_optima = 4032

-- at most 63 for each sift
pub sift_few : {x : Sift Layout} → ProperSift x → optima_at x ≤ 63
sift_few {x} p = omega (arith, optima_below p, (sound x.before p.valid_before).small)

all_few : {xs : List (Sift Layout)} → All ProperSift xs → optima_in xs ≤ 63 * length xs
unfolding optima_in
all_few ps = sum_over_most optima_at 63 (all_mono ps (λ x p. sift_few p))

module _ (us : List ℕ) (l : Layout) (t : T (valid l)) (below : All (λ u. u < l.n) us) where
  pub sifts_few : (sift_all us l).optima ≤ 63 * length us
  unfolding sift_all swept
  sifts_few = omega (arith, all_few (sifts_proper ring Valid lawful us l t below), sifts_length ring us l)

pub round_few : (l : Layout) → T (valid l) → (sift_round l).optima ≤ most_optima
unfolding sift_round sifts_of_all sift_all
round_few l t = omega (arith, sifts_few (upto l.n) l t (all_upto l.n), length_upto l.n, (sound l t).small)
