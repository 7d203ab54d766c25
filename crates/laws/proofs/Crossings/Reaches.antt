-- The walk of a sift by one sum for each exchange, along a walk and by whole rows.
use Rattle.std.specs.Prelude.{ℕ, suc, ◌+◌, ◌*◌, ◌<◌, ◌≡◌, length, take, drop}
use Rattle.std.proofs.Common.{arith, ◌∙◌}
use Rattle.std.proofs.Math.Path.{ap}
use mathlib.Core.List.{List, ◌∷◌, ◌++◌}
use Rattle.std.proofs.Math.Seq.{split_at}
use Rattle.model.specs.Lists.{upto, sum_over}
use Rattle.model.specs.Sifting.{clockwise_from}
use Rattle.laws.specs.Sums.Lists.{All, all_at, all_mono}
use Rattle.laws.specs.Sums.Pairs.{Symmetric}
use Rattle.laws.specs.Orders.Permutations.{at, Permutation, order_sum}
use Rattle.laws.specs.Sifting.Candidates.{clockwise_sum, clockwise_length, clockwise_others}
use Rattle.laws.specs.Sifting.Walk.{walked}
use Rattle.laws.proofs.Sifting.Walk.{walked_next}
use Rattle.laws.specs.Crossings.Reaches.{Reaches, exchange_reached}

-- ---- along a walk: k of the others were passed, and u is exchanged with the next one

module _ {n : ℕ} {W : ℕ → ℕ → ℕ} (s : Symmetric n W) {u : ℕ} {others : List ℕ} (h : u < n) (below : All (λ x. x < n) others)
    (k : ℕ) (l : k < length others) {R : ℕ → ℕ} (r : Reaches (W u) others R) where
  abbrev next : ℕ
  next = at others k

  pub walked_reached :
      walked W u others (suc k) + (sum_over (λ y. W next y * R y) others + 2 * (sum_over (W u) others * sum_over (W next) (take k others)))
      ≡ walked W u others k + (sum_over (W u) others + W u next + 2 * sum_over (W u) (take k others)) * sum_over (W next) others
  walked_reached =
      let parts : others ≡ take k others ++ (next ∷ drop (suc k) others) = split_at others k 0 l in
      let law = exchange_reached (W u) (W next) (take k others) next (drop (suc k) others) (s.diagonal next (all_at 0 below k l)) (rw parts at r) in
      let law_whole = rw (← parts) at law in
      omega (arith, law_whole, walked_next s h below k l)

-- by whole rows: the sums over all vertices, u among them, whose own reach is 0
module _ {n : ℕ} {W : ℕ → ℕ → ℕ} (s : Symmetric n W) {o : List ℕ} (perm : Permutation n o) {u : ℕ} (h : u < n) (k : ℕ) (l : suc k < n) {R : ℕ → ℕ}
    (r : Reaches (W u) (clockwise_from u o) R) (nothing : R u ≡ 0) where
  abbrev those : List ℕ
  those = clockwise_from u o

  abbrev v : ℕ
  v = at (clockwise_from u o) k

  row_others : (g : ℕ → ℕ) → sum_over g (upto n) ≡ g u + sum_over g those
  row_others g = order_sum perm g ∙ clockwise_sum perm u h g

  pub row_reached :
      walked W u those (suc k)
      + (sum_over (λ y. W v y * R y) (upto n) + 2 * (sum_over (W u) (upto n) * sum_over (W v) (take k those)))
      + (sum_over (W u) (upto n) + W u v + 2 * sum_over (W u) (take k those)) * W u v
      ≡ walked W u those k + (sum_over (W u) (upto n) + W u v + 2 * sum_over (W u) (take k those)) * sum_over (W v) (upto n)
  row_reached =
      let others = clockwise_others perm u h in
      let inside : k < length those = omega (arith, clockwise_length perm u h) in
      let law = walked_reached s h (all_mono others (λ x p. p.0)) k inside r in
      let kept : sum_over (λ y. W v y * R y) (upto n) ≡ sum_over (λ y. W v y * R y) those
      = row_others (λ y. W v y * R y) ∙ rw (nothing) (omega arith) in
      let whole : sum_over (W u) (upto n) ≡ sum_over (W u) those = row_others (W u) ∙ rw (s.diagonal u h) (omega arith) in
      let row : sum_over (W v) (upto n) ≡ W u v + sum_over (W v) those
      = row_others (W v) ∙ ap (λ (x : ℕ). x + sum_over (W v) those) (s.swap v u (all_at 0 others k inside).0 h) in
      rw (kept, whole, row) (omega (arith, law))
