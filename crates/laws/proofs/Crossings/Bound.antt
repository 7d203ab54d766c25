-- The most crossings: no layout has more, and complete graphs have as many, over any weight of at most c.
use Rattle.std.specs.Prelude.{ℕ, suc, ◌*◌, ◌-◌, ◌≤◌, ◌<◌, ◌≡◌, refl, ltb}
use Rattle.std.proofs.Common.{le_refl, le_trans, le_of_eq, le_antisymm, mul-le-mul, mul-le-mul_left, arith, sym, ap, ap₂, ◌∙◌}
use Rattle.model.specs.Lists.{one}
use Rattle.laws.specs.Sums.Ranges.{sum, sum_const, sum_below, sum_above, sum_mono}
use Rattle.laws.specs.Sums.Pairs.{pair_sum, pair_sum_ext, pair_sum_scale}
use Rattle.laws.specs.Crossings.Counting.{crossing_sum, crossing_sum_counted}
use Rattle.laws.specs.Crossings.Bound.{guarded, pair_sum_mono, quadruples, most_crossings, quadruples_mono}

pub quadruples_most : quadruples 64 ≡ most_crossings
unfolding quadruples pair_sum sum one
quadruples_most = refl

-- every two vertices joined, with weight c
pub complete_sum : (n c : ℕ) → crossing_sum n (λ i j. c) ≡ c * c * quadruples n
unfolding quadruples
complete_sum n c =
    crossing_sum_counted n (λ i j. c)
    ∙ pair_sum_ext n (λ j k. sum n (λ i. one (ltb i j) * c) * sum n (λ l. one (ltb k l) * c)) (λ j k. c * c * (j * (n - suc k)))
    (λ j k l b.
    ap₂ (λ (x y : ℕ). x * y)
    (sum_below n j (λ i. c) (omega arith) ∙ sum_const j c)
    (sum_above n k (λ i. c) b ∙ sum_const (n - suc k) c)
    ∙ regroup j (n - suc k))
    ∙ pair_sum_scale n (c * c) (λ j k. j * (n - suc k))
  where
    regroup : (x y : ℕ) → x * c * (y * c) ≡ c * c * (x * y)
    regroup x y = omega arith

-- larger weights make no fewer crossings; only pairs in their order are asked
pub crossing_sum_mono : (n : ℕ) (v w : ℕ → ℕ → ℕ) → ((i j : ℕ) → i < j → j < n → v i j ≤ w i j) → crossing_sum n v ≤ crossing_sum n w
crossing_sum_mono n v w h =
    rw (crossing_sum_counted n v, crossing_sum_counted n w)
    (pair_sum_mono n n (λ j k. sum n (λ i. one (ltb i j) * v i k) * sum n (λ l. one (ltb k l) * v j l))
    (λ j k. sum n (λ i. one (ltb i j) * w i k) * sum n (λ l. one (ltb k l) * w j l)) (le_refl n)
    (λ j k jk kn.
    mul-le-mul
    (sum_mono n (λ i. one (ltb i j) * v i k) (λ i. one (ltb i j) * w i k) (λ i a. guarded i j (v i k) (w i k) (λ l. h i k (omega arith) kn)))
    (sum_mono n (λ l. one (ltb k l) * v j l) (λ l. one (ltb k l) * w j l) (λ l b. guarded k l (v j l) (w j l) (λ m. h j l (omega arith) b)))))

-- with weights of at most c, at most c times c times as many
pub crossing_sum_bound : (n c : ℕ) (w : ℕ → ℕ → ℕ) → n ≤ 64 → ((i j : ℕ) → i < j → j < n → w i j ≤ c) → crossing_sum n w ≤ c * c * most_crossings
crossing_sum_bound n c w h le =
    le_trans (crossing_sum_mono n w (λ i j. c) le)
    (rw (complete_sum n c, ← quadruples_most) (mul-le-mul_left (c * c) (quadruples_mono n 64 h)))

-- and 64 vertices that are all joined reach it
pub crossing_sum_complete : (c : ℕ) (w : ℕ → ℕ → ℕ) → ((i j : ℕ) → i < j → j < 64 → w i j ≡ c) → crossing_sum 64 w ≡ c * c * most_crossings
crossing_sum_complete c w h =
    le_antisymm (crossing_sum_mono 64 w (λ i j. c) (λ i j l b. le_of_eq (h i j l b))) (crossing_sum_mono 64 (λ i j. c) w (λ i j l b. le_of_eq (sym (h i j l b))))
    ∙ complete_sum 64 c
    ∙ ap (λ (x : ℕ). c * c * x) quadruples_most
