-- The vertex at a place of any bytes, and sets of vertices held as bits of a word.
use Rattle.std.specs.Prelude.{ℕ, zero, suc, ◌+◌, ◌*◌, ◌-◌, ◌/◌, ◌%◌, ◌^◌, ◌≤◌, ◌<◌, ◌≡◌, refl, List, get_or, take, eqb}
use Rattle.std.proofs.Common.{mul-add, lt_of_lt_of_le, mod-eq_of_lt, pow-suc, le_of_suc-le-suc, not-suc-le-zero, arith, sym, ap, ap₂, ◌∙◌, get_or-take, pow_pos}
use Rattle.std.proofs.Math.Arith.{dbl_pred, digits_div, digits_mod}
use Rattle.model.specs.Lists.{one, sum_over, occurrences}
use Rattle.model.specs.Crossings.{bit, linked, unit_weight}
use Rattle.laws.specs.Sums.Indicators.{order, one_eq, one_ne}
use Rattle.laws.specs.Sums.Ranges.{sum, sum_ext, sum_zero, sum_add, sum_at_right}
use Rattle.laws.specs.Sums.Lists.{All, none, also}
use Rattle.laws.specs.Orders.Permutations.{at, Permutation, at_lt}
use Rattle.laws.specs.Sums.Bits.{bit_lt, bit_first, bit_next, masked_ones}

-- ---- the vertex at a place, of any bytes at all: taken modulo 64

unfoldable pub vertex_at : List ℕ → ℕ → ℕ
vertex_at order k = get_or order k 0 % 64

-- of an order that holds each vertex once, the vertex there
pub vertex_within : {n : ℕ} (order : List ℕ) → n ≤ 64 → Permutation n (take n order) → (j : ℕ) → j < n → vertex_at order j ≡ at (take n order) j
unfolding vertex_at
vertex_within {n} order small permutation j h =
    ap (λ (x : ℕ). x % 64) (sym (get_or-take n order j 0 h)) ∙ mod-eq_of_lt (lt_of_lt_of_le (at_lt permutation j h) small)

-- ---- sets as words

-- the word m holds the vertices xs: its bits say how often each occurs
abbrev pub Holds : ℕ → List ℕ → Type 0
Holds m xs = (v : ℕ) → v < 64 → bit m v ≡ occurrences v xs

-- a sum over the values of a function, each as often as it occurs
pub sum_occurrences : (n : ℕ) (f : ℕ → ℕ) {xs : List ℕ} → All (λ x. x < n) xs → sum n (λ v. f v * occurrences v xs) ≡ sum_over f xs
unfolding occurrences sum_over
sum_occurrences n f none = sum_zero n (λ v. f v * 0) (λ v l. omega arith)
sum_occurrences n f (also {x} {xs} p ps) =
    sum_ext n (λ v. f v * (one (eqb v x) + occurrences v xs)) (λ v. f v * one (eqb v x) + f v * occurrences v xs)
    (λ v l. mul-add (f v) (one (eqb v x)) (occurrences v xs))
    ∙ sum_add n (λ v. f v * one (eqb v x)) (λ v. f v * occurrences v xs)
    ∙ ap₂ (λ (a b : ℕ). a + b) (sum_at_right n x f p) (sum_occurrences n f ps)

full_next : (n : ℕ) → 2 ^ suc n - 1 ≡ (2 ^ n - 1) * 2 + 1
full_next n = ap (λ (x : ℕ). x - 1) (pow-suc 2 n) ∙ dbl_pred (pow_pos n)

pub masked_sum : (w m : ℕ) {xs : List ℕ} → Holds m xs → All (λ x. x < 64) xs → masked_ones w m ≡ sum_over (bit w) xs
unfolding masked_ones
masked_sum w m {xs} h a =
    sum_ext 64 (λ v. bit w v * bit m v) (λ v. bit w v * occurrences v xs) (λ v l. ap (λ (x : ℕ). bit w v * x) (h v l))
    ∙ sum_occurrences 64 (bit w) a

-- the weight of an edge is a bit of the word
pub weight_bit : (adj : List ℕ) (u v : ℕ) → unit_weight adj u v ≡ bit (get_or adj u 0) v
unfolding linked
weight_bit adj u v = small_eq (bit (get_or adj u 0) v) (bit_lt (get_or adj u 0) v)
  where
    small_eq : (b : ℕ) → b < 2 → one (eqb b 1) ≡ b
    small_eq zero h = one_ne 0 1 (λ e. omega arith)
    small_eq (suc zero) h = one_eq 1 1 refl
    small_eq (suc (suc b)) h = absurd (omega arith)

-- all of the n lowest bits set
pub bit_full : (n v : ℕ) → v < n → bit (2 ^ n - 1) v ≡ 1
bit_full zero v h = absurd (not-suc-le-zero h)
bit_full (suc n) zero h =
    bit_first (2 ^ suc n - 1) ∙ ap (λ (x : ℕ). x % 2) (full_next n) ∙ digits_mod (2 ^ n - 1) (omega arith)
bit_full (suc n) (suc v) h =
    bit_next (2 ^ suc n - 1) v
    ∙ ap (λ (x : ℕ). bit (x / 2) v) (full_next n)
    ∙ ap (λ (x : ℕ). bit x v) (digits_div (2 ^ n - 1) (omega arith))
    ∙ bit_full n v (le_of_suc-le-suc h)
