-- The decimals of the kit's `io` are the model's.
use Rattle.std.specs.Prelude.{ℕ, zero, suc, ◌+◌, ◌*◌, ◌/◌, ◌%◌, ◌^◌, ◌≤◌, ◌<◌, ◌≡◌, List, [], ◌∷◌, ◌++◌, length}
use Rattle.std.proofs.Common.{div-lt_iff_lt-mul, le-div_iff_mul-le, mod-lt, pow-suc, arith, sym, ap, ap₂, ◌∙◌, lt-ltb}
use Rattle.std.proofs.Math.Nat.{pow-le-pow_right}
use Rattle.std.proofs.Math.Numerals.{unary_clauses}
use Rattle.io.specs.Digits.{hex_digit_ascii, last_digits, IsDigitCount}
use Rattle.model.specs.Lists.{upto}
use Rattle.model.specs.Listing.{text, decimal, spaced}
use Rattle.laws.specs.Buffers.Writing.{decimal_digit, decimal_more, decimal_length}

-- a digit's byte
glyph_byte : (d : ℕ) → d < 10 → hex_digit_ascii d ≡ 48 + d
glyph_byte d h = rw (lt-ltb d 10 h)

-- the fewest digits are all digits
pub digits_decimal : (k n : ℕ) → IsDigitCount 10 1 n k → last_digits 10 k n ≡ decimal n
digits_decimal zero n f = absurd (omega (arith, f.0))
digits_decimal (suc zero) n f =
    let few : n < 10 = f.1 in
    let last : n % 10 ≡ n = omega arith in
    ap (λ (d : ℕ). d ∷ []) (glyph_byte (n % 10) (omega arith) ∙ ap (λ (d : ℕ). 48 + d) last) ∙ sym (decimal_digit n few)
digits_decimal (suc (suc k)) n f =
    let least : 10 ^ k * 10 ≤ n = simp unary_clauses at (f.2 (omega arith)) in
    let any : 0 ≤ k = omega arith in
    let one : 10 ^ 0 ≤ 10 ^ k = pow-le-pow_right (omega arith) any in
    let tenth : IsDigitCount 10 1 (n / 10) (suc k) = (
      omega arith,
      (div-lt_iff_lt-mul {k = 10} (omega arith)).1 (rw (pow-suc 10 (suc k)) at f.1),
      λ _. simp unary_clauses ((le-div_iff_mul-le {k = 10} (omega arith)).1 least),
    ) in
    ap₂ (λ (s : List ℕ) (d : ℕ). s ++ (d ∷ [])) (digits_decimal (suc k) (n / 10) tenth) (glyph_byte (n % 10) (mod-lt n {m = 10} (omega arith)))
    ∙ sym (decimal_more n (omega arith))

-- how long a number behind a space is
pub spaced_length : (d : ℕ) {x : ℕ} → x < 10 ^ suc d → length (spaced x) ≤ suc (suc d)
unfolding spaced text upto
spaced_length d {x} h = omega (arith, decimal_length d x h)
