-- The walk of a sift by one sum for each exchange, over any weight (document 02, Note 8): u passes v, the next of the others clockwise from it. Of each of
-- the others y a number R y is kept, its reach: twice the weight of u on those before y, and the weight between u and y. The weights of v, each times a
-- reach, and twice all of u's weight times v's weight on those passed tell the crossings after the exchange from those before it. In natural numbers, so
-- what is taken away stands on the other side.
use Rattle.std.specs.Prelude.{ℕ, ◌+◌, ◌*◌, ◌<◌, ◌≡◌, length, take}
use Rattle.std.proofs.Common.{arith, ap₂, ◌∙◌}
use Rattle.std.proofs.Math.Path.{refl, sym, ap}
use mathlib.Core.List.{List, [], ◌∷◌, ◌++◌}
use Rattle.model.specs.Lists.{sum_over, sum_pairs}
use Rattle.laws.specs.Sums.Ranges.{sum, sum_ext, sum_add, sum_scale, sum_first}
use Rattle.laws.specs.Sums.Lists.{sum_over_scale, sum_over_places}
use Rattle.laws.specs.Orders.Permutations.{at}
use Rattle.laws.specs.Crossings.Exchange.{lost_ranked, gained_ranked}

-- ---- over lists: f the weights of u, g those of v

-- the others have these reaches
pub record Reaches (f : ℕ → ℕ) (others : List ℕ) (R : ℕ → ℕ) : Type 0 where
  pub reach : (i : ℕ) → i < length others → R (at others i) ≡ 2 * sum_over f (take i others) + f (at others i)

module _ (f g : ℕ → ℕ) where
  -- pairs of entries, by the place of the second one
  pairs_second : (xs : List ℕ) → sum_pairs (λ x y. f x * g y) xs ≡ sum (length xs) (λ i. sum_over f (take i xs) * g (at xs i))
  unfolding sum_pairs sum_over sum
  pairs_second [] = refl
  pairs_second (x ∷ xs) =
      let first = sum_first (length xs) (λ i. sum_over f (take i (x ∷ xs)) * g (at (x ∷ xs) i)) in
      let apart = sum_ext (length xs) (λ i. (f x + sum_over f (take i xs)) * g (at xs i)) (λ i. f x * g (at xs i) + sum_over f (take i xs) * g (at xs i))
      (λ i l. omega arith) in
      let added = sum_add (length xs) (λ i. f x * g (at xs i)) (λ i. sum_over f (take i xs) * g (at xs i)) in
      let row = ap (λ (k : ℕ). f x * k) (sum_over_places g 0 xs) ∙ sym (sum_scale (length xs) (f x) (λ i. g (at xs i))) in
      rw (sum_over_scale (f x) g xs, pairs_second xs) (omega (arith, row, first, apart, added))

  -- the sum over the row of v
  reach_sum : {others : List ℕ} {R : ℕ → ℕ} → Reaches f others R
      → sum_over (λ y. g y * R y) others ≡ 2 * sum_pairs (λ x y. f x * g y) others + sum_over (λ x. g x * f x) others
  reach_sum {others} {R} r =
      sum_over_places (λ y. g y * R y) 0 others
      ∙ sum_ext n (λ i. g (at others i) * R (at others i)) (λ i. 2 * before i + shared i) (λ i l. rw (r.reach i l) (omega arith))
      ∙ sum_add n (λ i. 2 * before i) shared
      ∙ ap₂ (λ (a b : ℕ). a + b) (sum_scale n 2 before ∙ ap (λ (x : ℕ). 2 * x) (sym (pairs_second others)))
      (sym (sum_over_places (λ x. g x * f x) 0 others))
    where
      n : ℕ
      n = length others

      before : ℕ → ℕ
      before i = sum_over f (take i others) * g (at others i)

      shared : ℕ → ℕ
      shared i = g (at others i) * f (at others i)

  -- what is gained and lost
  pub exchange_reached : (passed : List ℕ) (v : ℕ) (rest : List ℕ) → g v ≡ 0 → {R : ℕ → ℕ} → Reaches f (passed ++ (v ∷ rest)) R
      → sum_pairs (λ y x. g y * f x) (rest ++ passed)
      + (sum_over (λ y. g y * R y) (passed ++ (v ∷ rest)) + 2 * (sum_over f (passed ++ (v ∷ rest)) * sum_over g passed))
      ≡ sum_pairs (λ x y. f x * g y) (rest ++ passed)
      + (sum_over f (passed ++ (v ∷ rest)) + f v + 2 * sum_over f passed) * sum_over g (passed ++ (v ∷ rest))
  exchange_reached passed v rest none r =
      omega (arith, lost_ranked f g passed v rest none, gained_ranked f g passed v rest none, reach_sum r)
