-- The bits of a word: what setting and clearing one does to the others, and counts of ones as sums.
use Rattle.std.specs.Prelude.{ℕ, zero, suc, ◌+◌, ◌*◌, ◌-◌, ◌/◌, ◌%◌, ◌^◌, ◌≤◌, ◌<◌, ◌≡◌, refl, ltb, Bool, cond}
use Rattle.std.proofs.Common.{zero-le, zero-mul, one-mul, pow-suc, div-one, mod-lt, div-add-mod', div-mul-le_self, mul-le-mul_right, zero-lt-suc, le_trans, lt_of_lt_of_le, le_of_eq, le_of_suc-le-suc, mul-le-mul, not-suc-le-zero, arith, sym, ap, ap₂, ◌∙◌, subst, pow_mono, shr_lt, shl_exact, lit<, lt-ltb, add-one, one-add}
use Rattle.std.proofs.Math.Nat.{pow-succ', mod-le, div-div-eq-div-mul, div-eq_of_lt}
use Rattle.std.proofs.Math.Arith.{lt-one, digits_div, digits_mod}
use Rattle.std.proofs.Math.Pow.{pow-lt}
use Rattle.std.specs.Int.Bits.{bit_and, bit_or, or_add_and}
use Rattle.std.proofs.lemmas.Nat.{and_shr, and_mod, and_le_l, or_lt}
use Rattle.std.proofs.lemmas.Nat.Bits.{and_high}
use Rattle.std.specs.Int.Count.{ones, ones_step}
use Rattle.model.specs.Crossings.{bit}
use Rattle.model.specs.Edits.{with_bit, without_bit}
use Rattle.laws.specs.Sums.Ranges.{sum, sum_ext, sum_const, sum_first, sum_mono}

pub bit_lt : (w i : ℕ) → bit w i < 2
unfolding bit
bit_lt w i = mod-lt (w / 2 ^ i) (zero-lt-suc 1)

-- the lowest bit, and the others
pub bit_first : (w : ℕ) → bit w 0 ≡ w % 2
unfolding bit
bit_first w = ap (λ (x : ℕ). x % 2) (div-one w)

pub bit_next : (w i : ℕ) → bit w (suc i) ≡ bit (w / 2) i
unfolding bit
bit_next w i = ap (λ (x : ℕ). x % 2) (ap (λ (x : ℕ). w / x) (pow-succ' 2 i) ∙ sym (div-div-eq-div-mul w 2 (2 ^ i)))

-- a word of k bits has none from k on
pub bit_beyond : (k w i : ℕ) → w < 2 ^ k → k ≤ i → bit w i ≡ 0
unfolding bit
bit_beyond k w i h l = ap (λ (x : ℕ). x % 2) (div-eq_of_lt (lt_of_lt_of_le h (pow_mono l)))

pub bit_none : (i : ℕ) → bit 0 i ≡ 0
bit_none i = bit_beyond 0 0 i (omega arith) zero-le

-- a bit is no more than the word
bit_le : (w i : ℕ) → bit w i * 2 ^ i ≤ w
unfolding bit
bit_le w i = le_trans (mul-le-mul_right (2 ^ i) (mod-le (w / 2 ^ i) 2)) (div-mul-le_self w (2 ^ i))

half_lt : (k w : ℕ) → w < 2 ^ suc k → w / 2 < 2 ^ k
half_lt k w h = shr_lt k 1 (subst (λ (x : ℕ). w < 2 ^ x) (sym (add-one k)) h)

-- words of k bits with the same bits are the same
pub bits_ext : (k v w : ℕ) → v < 2 ^ k → w < 2 ^ k → ((i : ℕ) → i < k → bit v i ≡ bit w i) → v ≡ w
bits_ext zero v w h l e = lt-one h ∙ sym (lt-one l)
bits_ext (suc k) v w h l e =
    sym (div-add-mod' v 2)
    ∙ ap₂ (λ (x y : ℕ). x * 2 + y)
    (bits_ext k (v / 2) (w / 2) (half_lt k v h) (half_lt k w l) (λ i m. sym (bit_next v i) ∙ e (suc i) (omega arith) ∙ bit_next w i))
    (sym (bit_first v) ∙ e 0 (omega arith) ∙ bit_first w)
    ∙ div-add-mod' w 2

-- the bits of a complement
pub bit_complement : (k m i : ℕ) → m < 2 ^ k → i < k → bit (2 ^ k - 1 - m) i ≡ 1 - bit m i
bit_complement zero m i h l = absurd (not-suc-le-zero l)
bit_complement (suc k) m i h l = by_place i l (λ j b. bit_complement k (m / 2) j (half_lt k m h) b)
  where
    halves : 2 ^ suc k - 1 - m ≡ (2 ^ k - 1 - m / 2) * 2 + (1 - m % 2)
    halves = rw (pow-suc 2 k) (omega (arith, div-add-mod' m 2, half_lt k m h))

    by_place : (i : ℕ) → i < suc k → ((j : ℕ) → j < k → bit (2 ^ k - 1 - m / 2) j ≡ 1 - bit (m / 2) j) → bit (2 ^ suc k - 1 - m) i ≡ 1 - bit m i
    by_place zero b lower =
        bit_first (2 ^ suc k - 1 - m)
        ∙ ap (λ (x : ℕ). x % 2) halves
        ∙ digits_mod (2 ^ k - 1 - m / 2) (omega arith)
        ∙ ap (λ (x : ℕ). 1 - x) (sym (bit_first m))
    by_place (suc j) b lower =
        bit_next (2 ^ suc k - 1 - m) j
        ∙ ap (λ (x : ℕ). bit (x / 2) j) halves
        ∙ ap (λ (x : ℕ). bit x j) (digits_div (2 ^ k - 1 - m / 2) (omega arith))
        ∙ lower j (le_of_suc-le-suc b)
        ∙ ap (λ (x : ℕ). 1 - x) (sym (bit_next m j))

-- ---- counts of ones

-- a count of ones is the sum of the bits
pub ones_sum : (k w : ℕ) → w < 2 ^ k → ones w ≡ sum k (bit w)
unfolding sum ones
ones_sum zero w h = ap ones (lt-one h)
ones_sum (suc k) w h =
    ones_step w
    ∙ ap₂ (λ (x y : ℕ). x + y) (sym (bit_first w))
    (ones_sum k (w / 2) (half_lt k w h) ∙ sum_ext k (bit (w / 2)) (λ i. bit w (suc i)) (λ i l. sym (bit_next w i)))
    ∙ sym (sum_first k (bit w))

-- the bits of a conjunction
pub bit_and_lem : (a b i : ℕ) → bit (bit_and a b) i ≡ bit a i * bit b i
unfolding bit
bit_and_lem a b i =
    ap (λ (x : ℕ). x % 2) (and_shr a b i) ∙ and_mod (a / 2 ^ i) (b / 2 ^ i) 1
    ∙ product (a / 2 ^ i % 2) (b / 2 ^ i % 2) (mod-lt (a / 2 ^ i) (zero-lt-suc 1)) (mod-lt (b / 2 ^ i) (zero-lt-suc 1))
  where
    product : (x y : ℕ) → x < 2 → y < 2 → bit_and x y ≡ x * y
    product zero y p q = sym (zero-mul y)
    product (suc zero) zero p q = refl
    product (suc zero) (suc zero) p q = refl
    product (suc zero) (suc (suc y)) p q = absurd (omega arith)
    product (suc (suc x)) y p q = absurd (omega arith)

-- how many bits are set in both of two 64-bit words
unfoldable pub masked_ones : ℕ → ℕ → ℕ
masked_ones w m = sum 64 (λ i. bit w i * bit m i)

-- a count of ones under a mask
pub ones_masked : (k w m : ℕ) → w < 2 ^ k → ones (bit_and w m) ≡ sum k (λ i. bit w i * bit m i)
ones_masked k w m h =
    ones_sum k (bit_and w m) (omega (arith, and_le_l w m)) ∙ sum_ext k (bit (bit_and w m)) (λ i. bit w i * bit m i) (λ i l. bit_and_lem w m i)

pub masked_ones_le : (w m : ℕ) → masked_ones w m ≤ 64
unfolding masked_ones
masked_ones_le w m =
    le_trans (sum_mono 64 (λ i. bit w i * bit m i) (λ i. 1) (λ i l. mul-le-mul (le_of_suc-le-suc (bit_lt w i)) (le_of_suc-le-suc (bit_lt m i))))
    (le_of_eq (sum_const 64 1))

-- ---- one bit changed

-- bit i replaced by b
put : ℕ → ℕ → ℕ → ℕ
put w i b = w - bit w i * 2 ^ i + b * 2 ^ i

put_first : (w b : ℕ) → put w 0 b ≡ w / 2 * 2 + b
unfolding put
put_first w b = rw (bit_first w) (omega (arith, div-add-mod' w 2))

put_next : (w i b : ℕ) → put w (suc i) b ≡ put (w / 2) i b * 2 + w % 2
unfolding put
put_next w i b = rw (bit_next w i, pow-suc 2 i) (omega (arith, div-add-mod' w 2, bit_le (w / 2) i))

put_same : (w i b : ℕ) → b < 2 → bit (put w i b) i ≡ b
put_same w zero b h = bit_first (put w 0 b) ∙ ap (λ (x : ℕ). x % 2) (put_first w b) ∙ digits_mod (w / 2) h
put_same w (suc i) b h =
    bit_next (put w (suc i) b) i
    ∙ ap (λ (x : ℕ). bit (x / 2) i) (put_next w i b)
    ∙ ap (λ (x : ℕ). bit x i) (digits_div (put (w / 2) i b) (mod-lt w (zero-lt-suc 1)))
    ∙ put_same (w / 2) i b h

put_other : (w i b j : ℕ) → b < 2 → (j ≡ i → ⊥) → bit (put w i b) j ≡ bit w j
put_other w zero b zero h d = absurd (d refl)
put_other w zero b (suc j) h d =
    bit_next (put w 0 b) j ∙ ap (λ (x : ℕ). bit (x / 2) j) (put_first w b) ∙ ap (λ (x : ℕ). bit x j) (digits_div (w / 2) h) ∙ sym (bit_next w j)
put_other w (suc i) b zero h d =
    bit_first (put w (suc i) b) ∙ ap (λ (x : ℕ). x % 2) (put_next w i b)
    ∙ digits_mod (put (w / 2) i b) (mod-lt w (zero-lt-suc 1)) ∙ sym (bit_first w)
put_other w (suc i) b (suc j) h d =
    bit_next (put w (suc i) b) j
    ∙ ap (λ (x : ℕ). bit (x / 2) j) (put_next w i b)
    ∙ ap (λ (x : ℕ). bit x j) (digits_div (put (w / 2) i b) (mod-lt w (zero-lt-suc 1)))
    ∙ put_other (w / 2) i b j h (λ e. d (ap suc e))
    ∙ sym (bit_next w j)

set_put : (w i : ℕ) → with_bit w i ≡ put w i 1
unfolding with_bit put
set_put w i = omega arith

clear_put : (w i : ℕ) → without_bit w i ≡ put w i 0
unfolding without_bit put
clear_put w i = omega arith

pub set_same : (w i : ℕ) → bit (with_bit w i) i ≡ 1
set_same w i = rw (set_put w i) (put_same w i 1 (omega arith))

pub set_other : (w i j : ℕ) → (j ≡ i → ⊥) → bit (with_bit w i) j ≡ bit w j
set_other w i j d = rw (set_put w i) (put_other w i 1 j (omega arith) d)

pub clear_same : (w i : ℕ) → bit (without_bit w i) i ≡ 0
clear_same w i = rw (clear_put w i) (put_same w i 0 (omega arith))

pub clear_other : (w i j : ℕ) → (j ≡ i → ⊥) → bit (without_bit w i) j ≡ bit w j
clear_other w i j d = rw (clear_put w i) (put_other w i 0 j (omega arith) d)

-- ---- how code changes one bit: by the power of two at it

pub and_power : (w i : ℕ) → bit_and w (2 ^ i) ≡ bit w i * 2 ^ i
unfolding bit
and_power w i = ap (bit_and w) (power i) ∙ and_high w 1 i
  where
    power : (i : ℕ) → 2 ^ i ≡ 2 ^ (1 + i) - 2 ^ i
    power i = rw (one-add i, pow-suc 2 i) (omega arith)

pub or_power : (w i : ℕ) → bit_or w (2 ^ i) ≡ with_bit w i
unfolding with_bit
or_power w i = omega (arith, or_add_and w (2 ^ i), and_power w i, bit_le w i)

pub sub_power : (w i : ℕ) → w - bit_and w (2 ^ i) ≡ without_bit w i
unfolding without_bit
sub_power w i = ap (λ (x : ℕ). w - x) (and_power w i)

-- a word of k bits stays one
pub set_lt : (k w i : ℕ) → w < 2 ^ k → i < k → with_bit w i < 2 ^ k
set_lt k w i h l = rw (← (or_power w i)) (or_lt k w (2 ^ i) h (pow-lt l))

pub clear_lt : (k w i : ℕ) → w < 2 ^ k → i < k → without_bit w i < 2 ^ k
unfolding without_bit
clear_lt k w i h l = omega arith

-- a one shifted to a place of a 64-bit word
pub shifted_one : (i : ℕ) → i < 64 → (1 * 2 ^ i) % 2 ^ 64 ≡ 2 ^ i
shifted_one i h = shl_exact 1 i 64 (lit< tt) (omega arith) ∙ one-mul (2 ^ i)

-- a place beyond the word's bits is never set, and clearing it changes nothing
pub clear_beyond : (k w i : ℕ) → w < 2 ^ k → k ≤ i → without_bit w i ≡ w
unfolding without_bit
clear_beyond k w i h l = rw (bit_beyond k w i h l) (omega arith)

-- what setting a bit gives, at a place of the word
pub set_within : {r : ℕ} (w i : ℕ) → i < 64 → r ≡ cond (ltb i 64) (with_bit w i) w → r ≡ with_bit w i
set_within w i h e = e ∙ ap (λ (t : Bool). cond t (with_bit w i) w) (lt-ltb i 64 h)
