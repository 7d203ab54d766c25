-- Sums over the numbers below n.
use Rattle.std.specs.Prelude.{ℕ, zero, suc, ◌+◌, ◌*◌, ◌-◌, ◌≤◌, ◌<◌, ◌≡◌, refl, eqb, ltb}
use Rattle.std.proofs.Common.{zero-le, add-zero, zero-add, mul-zero, add-suc, add-le-add, lt-suc_self, mul_comm, not-suc-le-zero, zero-mul, one-mul, add-sub_of_le, le_trans, le-add_right, le-add_left, arith, sym, ap, ap₂, ◌∙◌}
use Rattle.std.proofs.Math.Nat.{le_step}
use Rattle.model.specs.Lists.{one}
use Rattle.laws.specs.Sums.Indicators.{less, same, more, order, one_eq, one_ne, one_lt, one_ge, one_sym}

unfoldable pub sum : ℕ → (ℕ → ℕ) → ℕ
sum zero f = 0
sum (suc n) f = sum n f + f n

-- a number twice
pub double : (x : ℕ) → x + x ≡ 2 * x
double x = omega arith

pub halves : (x y : ℕ) → 2 * x ≡ 2 * y → x ≡ y
halves x y e = omega arith

-- the same terms
pub sum_ext : (n : ℕ) (f g : ℕ → ℕ) → ((i : ℕ) → i < n → f i ≡ g i) → sum n f ≡ sum n g
unfolding sum
sum_ext zero f g h = refl
sum_ext (suc n) f g h = ap₂ (λ (x y : ℕ). x + y) (sum_ext n f g (λ i l. h i (le_step l))) (h n (lt-suc_self n))

pub sum_zero : (n : ℕ) (f : ℕ → ℕ) → ((i : ℕ) → i < n → f i ≡ 0) → sum n f ≡ 0
unfolding sum
sum_zero zero f h = refl
sum_zero (suc n) f h = ap₂ (λ (x y : ℕ). x + y) (sum_zero n f (λ i l. h i (le_step l))) (h n (lt-suc_self n))

-- a last term that is 0
pub sum_last : (n : ℕ) (f : ℕ → ℕ) → f n ≡ 0 → sum (suc n) f ≡ sum n f
unfolding sum
sum_last n f e = ap (λ (x : ℕ). sum n f + x) e ∙ add-zero (sum n f)

-- addition, and a factor taken out
pub sum_add : (n : ℕ) (f g : ℕ → ℕ) → sum n (λ i. f i + g i) ≡ sum n f + sum n g
unfolding sum
sum_add zero f g = refl
sum_add (suc n) f g = rw (sum_add n f g) (omega arith)

pub sum_scale : (n c : ℕ) (f : ℕ → ℕ) → sum n (λ i. c * f i) ≡ c * sum n f
unfolding sum
sum_scale zero c f = sym (mul-zero c)
sum_scale (suc n) c f = rw (sum_scale n c f) (omega arith)

pub sum_scale_right : (n c : ℕ) (f : ℕ → ℕ) → sum n (λ i. f i * c) ≡ sum n f * c
sum_scale_right n c f =
    sum_ext n (λ i. f i * c) (λ i. c * f i) (λ i l. mul_comm (f i) c) ∙ sum_scale n c f ∙ mul_comm c (sum n f)

pub sum_const : (n c : ℕ) → sum n (λ i. c) ≡ n * c
unfolding sum
sum_const zero c = sym (zero-mul c)
sum_const (suc n) c = rw (sum_const n c) (omega arith)

-- two sums exchanged
pub sum_swap : (n m : ℕ) (f : ℕ → ℕ → ℕ) → sum n (λ i. sum m (λ j. f i j)) ≡ sum m (λ j. sum n (λ i. f i j))
unfolding sum
sum_swap zero m f = sym (sum_zero m (λ j. 0) (λ i l. refl))
sum_swap (suc n) m f = rw (sum_swap n m f) (sym (sum_add m (λ j. sum n (λ i. f i j)) (λ j. f n j)))

-- a product of sums
pub sum_product : (n m : ℕ) (f g : ℕ → ℕ) → sum n (λ i. sum m (λ j. f i * g j)) ≡ sum n f * sum m g
sum_product n m f g =
    sum_ext n (λ i. sum m (λ j. f i * g j)) (λ i. f i * sum m g) (λ i l. sum_scale m (f i) g) ∙ sum_scale_right n (sum m g) f

-- ---- four sums, one inside the other

unfoldable pub sum4 : ℕ → (ℕ → ℕ → ℕ → ℕ → ℕ) → ℕ
sum4 n f = sum n (λ a. sum n (λ b. sum n (λ c. sum n (λ d. f a b c d))))

pub sum4_ext : (n : ℕ) (f g : ℕ → ℕ → ℕ → ℕ → ℕ)
    → ((a b c d : ℕ) → a < n → b < n → c < n → d < n → f a b c d ≡ g a b c d) → sum4 n f ≡ sum4 n g
unfolding sum4
sum4_ext n f g h =
    sum_ext n (λ a. sum n (λ b. sum n (λ c. sum n (λ d. f a b c d)))) (λ a. sum n (λ b. sum n (λ c. sum n (λ d. g a b c d))))
    (λ a i. sum_ext n (λ b. sum n (λ c. sum n (λ d. f a b c d))) (λ b. sum n (λ c. sum n (λ d. g a b c d)))
    (λ b j. sum_ext n (λ c. sum n (λ d. f a b c d)) (λ c. sum n (λ d. g a b c d))
    (λ c k. sum_ext n (λ d. f a b c d) (λ d. g a b c d) (λ d l. h a b c d i j k l))))

-- neighbours exchanged
pub sum4_swap_first : (n : ℕ) (f : ℕ → ℕ → ℕ → ℕ → ℕ) → sum4 n f ≡ sum4 n (λ b a c d. f a b c d)
unfolding sum4
sum4_swap_first n f = sum_swap n n (λ a b. sum n (λ c. sum n (λ d. f a b c d)))

pub sum4_swap_middle : (n : ℕ) (f : ℕ → ℕ → ℕ → ℕ → ℕ) → sum4 n f ≡ sum4 n (λ a c b d. f a b c d)
unfolding sum4
sum4_swap_middle n f =
    sum_ext n (λ a. sum n (λ b. sum n (λ c. sum n (λ d. f a b c d)))) (λ a. sum n (λ c. sum n (λ b. sum n (λ d. f a b c d))))
    (λ a l. sum_swap n n (λ b c. sum n (λ d. f a b c d)))

pub sum4_swap_last : (n : ℕ) (f : ℕ → ℕ → ℕ → ℕ → ℕ) → sum4 n f ≡ sum4 n (λ a b d c. f a b c d)
unfolding sum4
sum4_swap_last n f =
    sum_ext n (λ a. sum n (λ b. sum n (λ c. sum n (λ d. f a b c d)))) (λ a. sum n (λ b. sum n (λ d. sum n (λ c. f a b c d))))
    (λ a l. sum_ext n (λ b. sum n (λ c. sum n (λ d. f a b c d))) (λ b. sum n (λ d. sum n (λ c. f a b c d))) (λ b m. sum_swap n n (f a b)))

-- ---- parts of a sum

-- the first term taken out, and a sum cut in two
pub sum_first : (n : ℕ) (f : ℕ → ℕ) → sum (suc n) f ≡ f 0 + sum n (λ i. f (suc i))
unfolding sum
sum_first zero f = omega arith
sum_first (suc n) f = rw (sum_first n f) (omega arith)

pub sum_cut : (n m : ℕ) (f : ℕ → ℕ) → sum (n + m) f ≡ sum n f + sum m (λ i. f (n + i))
unfolding sum
sum_cut n zero f = rw (add-zero n) (omega arith)
sum_cut n (suc m) f = rw (add-suc n m, sum_cut n m f) (omega arith)

-- one term taken out by its number
pub sum_at : (n k : ℕ) (f : ℕ → ℕ) → k < n → sum n (λ i. one (eqb k i) * f i) ≡ f k
unfolding sum
sum_at zero k f h = absurd (not-suc-le-zero h)
sum_at (suc n) k f h =
    elim (order k n) [
      | less l ↦ rw (sum_at n k f l, one_ne k n (λ e. omega arith)) (omega arith)
      | same e ↦
          rw (sum_zero n (λ i. one (eqb k i) * f i) (λ i l. rw (one_ne k i (λ d. omega arith)) (zero-mul (f i))), one_eq k n e)
          (omega (arith, ap f e))
      | more l ↦ absurd (omega arith)
    ]

pub sum_at_right : (n k : ℕ) (f : ℕ → ℕ) → k < n → sum n (λ i. f i * one (eqb i k)) ≡ f k
sum_at_right n k f h =
    sum_ext n (λ i. f i * one (eqb i k)) (λ i. one (eqb k i) * f i) (λ i l. rw (one_sym i k) (mul_comm (f i) (one (eqb k i))))
    ∙ sum_at n k f h

-- the terms below j, and those above k
pub sum_below : (n j : ℕ) (f : ℕ → ℕ) → j ≤ n → sum n (λ i. one (ltb i j) * f i) ≡ sum j f
sum_below n j f h =
    ap (λ (m : ℕ). sum m (λ i. one (ltb i j) * f i)) (sym (add-sub_of_le h))
    ∙ sum_cut j (n - j) (λ i. one (ltb i j) * f i)
    ∙ ap₂ (λ (x y : ℕ). x + y) (sum_ext j (λ i. one (ltb i j) * f i) f (λ i l. rw (one_lt i j l) (one-mul (f i))))
    (sum_zero (n - j) (λ i. one (ltb (j + i) j) * f (j + i)) (λ i l. rw (one_ge (j + i) j (omega arith)) (zero-mul (f (j + i)))))
    ∙ add-zero (sum j f)

pub sum_above : (n k : ℕ) (f : ℕ → ℕ) → k < n → sum n (λ l. one (ltb k l) * f l) ≡ sum (n - suc k) (λ i. f (suc k + i))
sum_above n k f h =
    ap (λ (m : ℕ). sum m (λ i. one (ltb k i) * f i)) (sym (add-sub_of_le h))
    ∙ sum_cut (suc k) (n - suc k) (λ i. one (ltb k i) * f i)
    ∙ ap₂ (λ (x y : ℕ). x + y)
    (sum_zero (suc k) (λ i. one (ltb k i) * f i) (λ i l. rw (one_ge k i (omega arith)) (zero-mul (f i))))
    (sum_ext (n - suc k) (λ i. one (ltb k (suc k + i)) * f (suc k + i)) (λ i. f (suc k + i))
    (λ i l. rw (one_lt k (suc k + i) (omega arith)) (one-mul (f (suc k + i)))))
    ∙ zero-add (sum (n - suc k) (λ i. f (suc k + i)))

-- larger terms, and a term is at most the sum
pub sum_mono : (n : ℕ) (f g : ℕ → ℕ) → ((i : ℕ) → i < n → f i ≤ g i) → sum n f ≤ sum n g
unfolding sum
sum_mono zero f g h = zero-le
sum_mono (suc n) f g h = add-le-add (sum_mono n f g (λ i l. h i (le_step l))) (h n (lt-suc_self n))

pub term_le : (n : ℕ) (f : ℕ → ℕ) (k : ℕ) → k < n → f k ≤ sum n f
unfolding sum
term_le zero f k h = absurd (not-suc-le-zero h)
term_le (suc n) f k h =
    elim (order k n) [
      | less l ↦ le_trans (term_le n f k l) (le-add_right (sum n f) (f n))
      | same e ↦ rw e (le-add_left (f n) (sum n f))
      | more l ↦ absurd (omega arith)
    ]

-- terms of at most 1 that sum to their number are all 1
pub all_one : (n : ℕ) (f : ℕ → ℕ) → ((i : ℕ) → i < n → f i ≤ 1) → sum n f ≡ n → (k : ℕ) → k < n → f k ≡ 1
unfolding sum
all_one zero f h e k l = absurd (not-suc-le-zero l)
all_one (suc n) f h e k l =
    elim (order k n) [
      | less b ↦ all_one n f (λ i m. h i (le_step m)) (omega (arith, most, h n (lt-suc_self n))) k b
      | same b ↦ rw b (omega (arith, most, h n (lt-suc_self n)))
      | more b ↦ absurd (omega arith)
    ]
  where
    most : sum n f ≤ n
    most = omega (arith, sum_mono n f (λ i. 1) (λ i m. h i (le_step m)), sum_const n 1)
