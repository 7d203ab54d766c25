-- Sums over unordered pairs of numbers below n.
use Rattle.std.specs.Prelude.{ℕ, suc, ◌+◌, ◌*◌, ◌<◌, ◌≡◌, List, ltb}
use Rattle.std.proofs.Common.{mul-zero, zero-mul, mul_left_comm, arith, sym, ap, ◌∙◌}
use Rattle.model.specs.Lists.{one}
use Rattle.laws.specs.Sums.Indicators.{less, same, more, order, one_lt, one_ge}
use Rattle.laws.specs.Sums.Ranges.{double, halves, sum, sum_ext, sum_zero, sum_last, sum_add, sum_scale, sum_swap, sum4, sum4_ext, sum4_swap_first}
use Rattle.laws.specs.Sums.Ranges.{sum4_swap_middle, sum4_swap_last}
use Rattle.laws.specs.Orders.Permutations.{at, Permutation, at_lt, sum_vertices}

-- each unordered pair once, the lower number first
unfoldable pub pair_sum : ℕ → (ℕ → ℕ → ℕ) → ℕ
pair_sum n F = sum n (λ i. sum n (λ j. one (ltb i j) * F i j))

-- the same terms, asked only of pairs in their order
pub pair_sum_ext : (n : ℕ) (F G : ℕ → ℕ → ℕ) → ((i j : ℕ) → i < j → j < n → F i j ≡ G i j) → pair_sum n F ≡ pair_sum n G
unfolding pair_sum
pair_sum_ext n F G h =
    sum_ext n (λ i. sum n (λ j. one (ltb i j) * F i j)) (λ i. sum n (λ j. one (ltb i j) * G i j))
    (λ i a. sum_ext n (λ j. one (ltb i j) * F i j) (λ j. one (ltb i j) * G i j) (λ j b. term i j b))
  where
    term : (i j : ℕ) → j < n → one (ltb i j) * F i j ≡ one (ltb i j) * G i j
    term i j b =
        elim (order i j) [
          | less l ↦ ap (λ (x : ℕ). one (ltb i j) * x) (h i j l b)
          | same e ↦ rw (one_ge i j (omega arith)) (omega arith)
          | more l ↦ rw (one_ge i j (omega arith)) (omega arith)
        ]

pub pair_sum_add : (n : ℕ) (F G : ℕ → ℕ → ℕ) → pair_sum n (λ i j. F i j + G i j) ≡ pair_sum n F + pair_sum n G
unfolding pair_sum
pair_sum_add n F G =
    sum_ext n (λ i. sum n (λ j. one (ltb i j) * (F i j + G i j))) (λ i. sum n (λ j. one (ltb i j) * F i j) + sum n (λ j. one (ltb i j) * G i j))
    (λ i a. sum_ext n (λ j. one (ltb i j) * (F i j + G i j)) (λ j. one (ltb i j) * F i j + one (ltb i j) * G i j) (λ j b. omega arith)
    ∙ sum_add n (λ j. one (ltb i j) * F i j) (λ j. one (ltb i j) * G i j))
    ∙ sum_add n (λ i. sum n (λ j. one (ltb i j) * F i j)) (λ i. sum n (λ j. one (ltb i j) * G i j))

pub pair_sum_zero : (n : ℕ) (F : ℕ → ℕ → ℕ) → ((i j : ℕ) → i < j → j < n → F i j ≡ 0) → pair_sum n F ≡ 0
unfolding pair_sum
pair_sum_zero n F h =
    pair_sum_ext n F (λ i j. 0) h
    ∙ sum_zero n (λ i. sum n (λ j. one (ltb i j) * 0)) (λ i a. sum_zero n (λ j. one (ltb i j) * 0) (λ j b. mul-zero (one (ltb i j))))

-- a last number in no pair that counts
pub pair_sum_last : (n : ℕ) (F : ℕ → ℕ → ℕ) → ((i : ℕ) → i < n → F i n ≡ 0) → pair_sum (suc n) F ≡ pair_sum n F
unfolding pair_sum
pair_sum_last n F h =
    sum_last n (λ i. sum (suc n) (λ j. one (ltb i j) * F i j))
    (sum_zero (suc n) (λ j. one (ltb n j) * F n j) (λ j b. rw (one_ge n j (omega arith)) (zero-mul (F n j))))
    ∙ sum_ext n (λ i. sum (suc n) (λ j. one (ltb i j) * F i j)) (λ i. sum n (λ j. one (ltb i j) * F i j))
    (λ i a. sum_last n (λ j. one (ltb i j) * F i j) (rw (h i a) (mul-zero (one (ltb i n)))))

pub pair_sum_scale : (n c : ℕ) (F : ℕ → ℕ → ℕ) → pair_sum n (λ i j. c * F i j) ≡ c * pair_sum n F
unfolding pair_sum
pair_sum_scale n c F =
    sum_ext n (λ i. sum n (λ j. one (ltb i j) * (c * F i j))) (λ i. c * sum n (λ j. one (ltb i j) * F i j))
    (λ i a. sum_ext n (λ j. one (ltb i j) * (c * F i j)) (λ j. c * (one (ltb i j) * F i j)) (λ j b. omega arith)
    ∙ sum_scale n c (λ j. one (ltb i j) * F i j))
    ∙ sum_scale n c (λ i. sum n (λ j. one (ltb i j) * F i j))

-- a sum over pairs of pairs as a sum over four numbers
pub pair_sum_pairs : (n : ℕ) (H : ℕ → ℕ → ℕ → ℕ → ℕ)
    → pair_sum n (λ a b. pair_sum n (λ c d. H a b c d)) ≡ sum4 n (λ a b c d. one (ltb a b) * (one (ltb c d) * H a b c d))
unfolding pair_sum sum4
pair_sum_pairs n H =
    sum_ext n (λ a. sum n (λ b. one (ltb a b) * sum n (λ c. sum n (λ d. one (ltb c d) * H a b c d))))
    (λ a. sum n (λ b. sum n (λ c. sum n (λ d. one (ltb a b) * (one (ltb c d) * H a b c d)))))
    (λ a k. sum_ext n (λ b. one (ltb a b) * sum n (λ c. sum n (λ d. one (ltb c d) * H a b c d)))
    (λ b. sum n (λ c. sum n (λ d. one (ltb a b) * (one (ltb c d) * H a b c d)))) (λ b l. inner a b))
  where
    inner : (a b : ℕ)
        → one (ltb a b) * sum n (λ c. sum n (λ d. one (ltb c d) * H a b c d))
        ≡ sum n (λ c. sum n (λ d. one (ltb a b) * (one (ltb c d) * H a b c d)))
    inner a b =
        sym (sum_scale n (one (ltb a b)) (λ c. sum n (λ d. one (ltb c d) * H a b c d)))
        ∙ sum_ext n (λ c. one (ltb a b) * sum n (λ d. one (ltb c d) * H a b c d)) (λ c. sum n (λ d. one (ltb a b) * (one (ltb c d) * H a b c d)))
        (λ c l. sym (sum_scale n (one (ltb a b)) (λ d. one (ltb c d) * H a b c d)))

-- two sums over pairs exchanged
pub pair_sum_swap : (n : ℕ) (H : ℕ → ℕ → ℕ → ℕ → ℕ)
    → pair_sum n (λ a b. pair_sum n (λ c d. H a b c d)) ≡ pair_sum n (λ c d. pair_sum n (λ a b. H a b c d))
pair_sum_swap n H =
    pair_sum_pairs n H
    ∙ sum4_swap_middle n term
    ∙ sum4_swap_first n (λ a c b d. term a b c d)
    ∙ sum4_swap_last n (λ c a b d. term a b c d)
    ∙ sum4_swap_middle n (λ c a d b. term a b c d)
    ∙ sum4_ext n (λ c d a b. term a b c d) (λ c d a b. one (ltb c d) * (one (ltb a b) * H a b c d))
    (λ c d a b i j k l. mul_left_comm (one (ltb a b)) (one (ltb c d)) (H a b c d))
    ∙ sym (pair_sum_pairs n (λ c d a b. H a b c d))
  where
    term : ℕ → ℕ → ℕ → ℕ → ℕ
    term a b c d = one (ltb a b) * (one (ltb c d) * H a b c d)

-- a function of two vertices that does not ask which comes first, and is 0 at a vertex and itself
pub record Symmetric (n : ℕ) (F : ℕ → ℕ → ℕ) : Type 0 where
  pub swap : (i j : ℕ) → i < n → j < n → F i j ≡ F j i
  pub diagonal : (i : ℕ) → i < n → F i i ≡ 0

-- all ordered pairs are the unordered ones twice
pub pair_sum_twice : (n : ℕ) (F : ℕ → ℕ → ℕ) → Symmetric n F → sum n (λ i. sum n (λ j. F i j)) ≡ 2 * pair_sum n F
unfolding pair_sum
pair_sum_twice n F s =
    sum_ext n (λ i. sum n (λ j. F i j)) (λ i. up i + down i)
    (λ i a. sum_ext n (λ j. F i j) (λ j. one (ltb i j) * F i j + one (ltb j i) * F i j) (λ j b. split i j a b)
    ∙ sum_add n (λ j. one (ltb i j) * F i j) (λ j. one (ltb j i) * F i j))
    ∙ sum_add n up down
    ∙ ap (λ (x : ℕ). sum n up + x) turned
    ∙ double (sum n up)
  where
    up : ℕ → ℕ
    up i = sum n (λ j. one (ltb i j) * F i j)

    down : ℕ → ℕ
    down i = sum n (λ j. one (ltb j i) * F i j)

    split : (i j : ℕ) → i < n → j < n → F i j ≡ one (ltb i j) * F i j + one (ltb j i) * F i j
    split i j a b =
        elim (order i j) [
          | less l ↦ rw (one_lt i j l, one_ge j i (omega arith)) (omega arith)
          | same e ↦ rw (one_ge i j (omega arith), one_ge j i (omega arith)) (ap (λ (k : ℕ). F i k) (sym e) ∙ s.diagonal i a ∙ omega arith)
          | more l ↦ rw (one_ge i j (omega arith), one_lt j i l) (omega arith)
        ]

    turned : sum n down ≡ sum n up
    turned =
        sum_swap n n (λ i j. one (ltb j i) * F i j)
        ∙ sum_ext n (λ j. sum n (λ i. one (ltb j i) * F i j)) up
        (λ j b. sum_ext n (λ i. one (ltb j i) * F i j) (λ i. one (ltb j i) * F j i) (λ i a. ap (λ (x : ℕ). one (ltb j i) * x) (s.swap i j a b)))

-- a sum over unordered pairs of vertices is the sum over unordered pairs of places
pub pair_vertices : {n : ℕ} {o : List ℕ} → Permutation n o → (F : ℕ → ℕ → ℕ) → Symmetric n F
    → pair_sum n F ≡ pair_sum n (λ i j. F (at o i) (at o j))
pair_vertices {n} {o} perm F s =
    halves (pair_sum n F) (pair_sum n (λ i j. F (at o i) (at o j)))
    (sym (pair_sum_twice n F s)
    ∙ sum_vertices perm (λ a. sum n (λ b. F a b))
    ∙ sum_ext n (λ i. sum n (λ b. F (at o i) b)) (λ i. sum n (λ j. F (at o i) (at o j))) (λ i l. sum_vertices perm (λ b. F (at o i) b))
    ∙ pair_sum_twice n (λ i j. F (at o i) (at o j))
    (record {
      swap = λ i j a b. s.swap (at o i) (at o j) (at_lt perm i a) (at_lt perm j b);
      diagonal = λ i a. s.diagonal (at o i) (at_lt perm i a);
    }))
