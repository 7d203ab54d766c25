-- A last place without edges in the counting identity.
use Prim.Native.Nat.{ℕ, suc, ◌*◌, ◌<◌}
use Rattle.std.proofs.Common.{mul-zero, zero-mul, arith, sym, ◌∙◌}
use Rattle.std.specs.Prelude.{◌≡◌, ltb}
use Rattle.std.proofs.Math.Path.{ap, ap₂}
use Rattle.model.specs.Lists.{one}
use Rattle.laws.specs.Sums.Indicators.{one_ge}
use Rattle.laws.specs.Sums.Ranges.{sum, sum_ext, sum_zero, sum_last}
use Rattle.laws.specs.Sums.Pairs.{pair_sum_ext, pair_sum_last}
use Rattle.laws.specs.Crossings.Counting.{crossing_sum, crossing_sum_counted}

-- a last place without edges changes nothing; v are the weights before it came
pub crossing_sum_last : (n : ℕ) (w v : ℕ → ℕ → ℕ) → ((i j : ℕ) → i < n → j < n → w i j ≡ v i j) → ((i : ℕ) → i < n → w i n ≡ 0)
    → crossing_sum (suc n) w ≡ crossing_sum n v
crossing_sum_last n w v same-weight none =
    crossing_sum_counted (suc n) w
    ∙ pair_sum_last n counted
    (λ j a.
    ap (λ (x : ℕ). below j n * x) (sum_zero (suc n) _ (λ l b. rw (one_ge n l (omega arith)) (zero-mul (w j l)))) ∙ mul-zero (below j n))
    ∙ pair_sum_ext n counted (λ j k. sum n (λ i. one (ltb i j) * v i k) * sum n (λ l. one (ltb k l) * v j l))
    (λ j k a b.
    ap₂ (λ (x y : ℕ). x * y)
    (sum_last n (λ i. one (ltb i j) * w i k) (rw (one_ge n j (omega arith)) (zero-mul (w n k)))
    ∙ sum_ext n (λ i. one (ltb i j) * w i k) (λ i. one (ltb i j) * v i k) (λ i c. ap (λ (x : ℕ). one (ltb i j) * x) (same-weight i k c b)))
    (sum_last n (λ l. one (ltb k l) * w j l) (ap (λ (x : ℕ). one (ltb k n) * x) (none j (omega arith)) ∙ mul-zero (one (ltb k n)))
    ∙ sum_ext n (λ l. one (ltb k l) * w j l) (λ l. one (ltb k l) * v j l) (λ l c. ap (λ (x : ℕ). one (ltb k l) * x) (same-weight j l (omega arith) c))))
    ∙ sym (crossing_sum_counted n v)
  where
    below : ℕ → ℕ → ℕ
    below j k = sum (suc n) (λ i. one (ltb i j) * w i k)

    counted : ℕ → ℕ → ℕ
    counted j k = below j k * sum (suc n) (λ l. one (ltb k l) * w j l)
