-- Greedy append, exactly: what a vertex put at an end of the list adds to the crossings met so far. Over any weight of the edges.
use Rattle.std.specs.Prelude.{ℕ, ◌+◌, ◌*◌, ◌<◌, ◌≡◌, List, [], ◌∷◌, ◌++◌, length}
use Rattle.std.proofs.Common.{mul-zero, ap, ◌∙◌}
use Rattle.std.proofs.Math.Nat.{mul_comm}
use native.Mathlib.Omega.{arith}
use Rattle.std.proofs.Math.Path.{refl}
use Rattle.model.specs.Lists.{sum_over, sum_pairs, occurrences}
use Rattle.model.specs.GreedyAppend.{unplaced}
use Rattle.laws.specs.Sums.Lists.{All, all_mono, sum_pairs_ext}
use Rattle.laws.specs.Sums.Pairs.{Symmetric}
use Rattle.laws.specs.Crossings.Counting.{crossing_sum, placed}
use Rattle.laws.specs.Crossings.Lists.{sum_triples, sum_quads, triples_last, quads_last, sum_triples_ext, sum_triples_add, closed_crossings, closed_crossings_lem}
use Rattle.laws.specs.Append.Order.{unplaced_but, sum_over_but}

-- the crossings of the edges between vertices of a list, and of these edges with open ones: ω b is the weight of the open edges at b, whose other ends
-- are still to come and will stand outside the list
unfoldable pub crossings_met : (ℕ → ℕ → ℕ) → (ℕ → ℕ) → List ℕ → ℕ
crossings_met W ω xs = closed_crossings W xs + sum_triples (λ a b c. W a c * ω b) xs

-- the edges of v's that close at b are open before v is placed, and not after it
pub record Closing (W : ℕ → ℕ → ℕ) (v : ℕ) (before after : ℕ → ℕ) (b : ℕ) : Type 0 where
  pub same : W v b ≡ W b v
  pub opened : before b ≡ after b + W v b

module _ (W : ℕ → ℕ → ℕ) where
  pub met_start : (ω : ℕ → ℕ) (s : ℕ) → crossings_met W ω (s ∷ []) ≡ 0
  unfolding crossings_met closed_crossings sum_quads sum_triples sum_pairs sum_over
  met_start ω s = refl

  module _ (v : ℕ) (before after : ℕ → ℕ) {xs : List ℕ} (closing : All (Closing W v before after) xs) where
    -- what was open towards v
    opened_sum : sum_triples (λ a b c. W a c * before b) xs ≡ sum_triples (λ a b c. W a c * after b) xs + sum_triples (λ a b c. W a c * W v b) xs
    opened_sum =
        sum_triples_ext (λ a b c. W a c * before b) (λ a b c. W a c * after b + W a c * W v b) closing
        (λ a b c p q r. rw q.opened (omega arith))
        ∙ sum_triples_add (λ a b c. W a c * after b) (λ a b c. W a c * W v b) xs

    -- v put at the back: its edges cross the open ones that leave from behind their ends
    pub met_back : crossings_met W after (xs ++ (v ∷ [])) ≡ crossings_met W before xs + sum_pairs (λ a b. W v a * after b) xs
    unfolding crossings_met closed_crossings
    met_back =
        rw (quads_last v (λ a b c d. W a c * W b d) xs, triples_last v (λ a b c. W a c * after b) xs, opened_sum)
        (omega (
          arith,
          sum_triples_ext (λ a b c. W a c * W b v) (λ a b c. W a c * W v b) closing (λ a b c p q r. rw q.same),
          sum_pairs_ext (λ a b. W a v * after b) (λ a b. W v a * after b) closing (λ a b p q. rw p.same),
        ))

    -- v put at the front: its mirror
    pub met_front : crossings_met W after (v ∷ xs) ≡ crossings_met W before xs + sum_pairs (λ a b. W v b * after a) xs
    unfolding crossings_met closed_crossings sum_quads sum_triples
    met_front =
        rw opened_sum
        (omega (arith, sum_triples_ext (λ a b c. W v b * W a c) (λ a b c. W a c * W v b) closing (λ a b c p q r. mul_comm (W v b) (W a c))))

-- before v is placed the edges to it are open, and then those to the others alone
pub closing_edges : {n : ℕ} {W : ℕ → ℕ → ℕ} → Symmetric n W → {v : ℕ} {xs : List ℕ} → v < n → occurrences v xs ≡ 0 → All (λ x. x < n) xs
    → All (Closing W v (λ b. sum_over (W b) (unplaced n xs)) (λ b. sum_over (W b) (unplaced_but n xs v))) xs
closing_edges {n} {W} symmetry {v} {xs} h free below =
    all_mono below
    (λ b l.
    record {
      same = symmetry.swap v b h l;
      opened = sum_over_but n xs v (W b) h free ∙ ap (λ (k : ℕ). sum_over (W b) (unplaced_but n xs v) + k) (symmetry.swap b v l h);
    })

-- once no edge is open, the crossings met are those of the list
pub met_finished : (W : ℕ → ℕ → ℕ) (ω : ℕ → ℕ) (xs : List ℕ) → ((b : ℕ) → ω b ≡ 0) → crossings_met W ω xs ≡ crossing_sum (length xs) (placed xs W)
unfolding crossings_met
met_finished W ω xs closed = simp (closed, mul-zero) (omega (arith, closed_crossings_lem W xs, sum_triples_add (λ a b c. 0) (λ a b c. 0) xs))
