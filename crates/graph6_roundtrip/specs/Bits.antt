-- Bits packed into bytes and unpacked again, and bytes unpacked and packed again.
use Rattle.std.specs.Prelude.{ℕ, zero, suc, ◌+◌, ◌*◌, ◌-◌, ◌/◌, ◌%◌, ◌^◌, ◌≤◌, ◌<◌, ◌≡◌, refl, true, List, length, get_or, take, drop, eqb}
use Rattle.std.proofs.Math.Nat.{div-add-mod}
use Rattle.std.proofs.Common.{le_of_suc-le-suc, le-add_right, add-sub_of_le, arith, sym, ap, ◌∙◌, length-take, get_or-take, get_or-drop, eqb-true}
use Rattle.std.proofs.Math.Decide.{dec_lt}
use Rattle.std.proofs.Math.ListN.{get_or-eq_default}
use Rattle.model.specs.Lists.{every}
use Rattle.model.specs.Crossings.{bit}
use Rattle.model.specs.Graph6.{unpacked, holds_six}
use Rattle.laws.specs.Sums.Ranges.{sum, sum_ext}
use Rattle.laws.specs.Sums.Lists.{All, all_mono, all_at, all_places}
use Rattle.laws.specs.Sums.Every.{every_all, all_every}
use Rattle.laws.specs.Sums.Bits.{bit_lt, bits_ext}
use Rattle.laws.specs.Graph6.Packing.{packed_in, packed_in_length, packed_in_at, packed_in_ext, unpacked_length, unpacked_bit, unpacked_at, bit_most}
use Rattle.laws.specs.Graph6.Packing.{six_most}
use Rattle.laws.specs.Graph6.SixBits.{six_within, within_six}

-- ---- six bits, and the number that they make

-- each is found there again
six_bits : (f : ℕ → ℕ) → ((j : ℕ) → f j ≤ 1) → (r : ℕ) → r < 6 → bit (sum 6 (λ j. f j * 2 ^ (5 - j))) (5 - r) ≡ f r
unfolding bit sum
six_bits f h zero l = omega (arith, h 0, h 1, h 2, h 3, h 4, h 5)
six_bits f h (suc zero) l = omega (arith, h 0, h 1, h 2, h 3, h 4, h 5)
six_bits f h (suc (suc zero)) l = omega (arith, h 0, h 1, h 2, h 3, h 4, h 5)
six_bits f h (suc (suc (suc zero))) l = omega (arith, h 0, h 1, h 2, h 3, h 4, h 5)
six_bits f h (suc (suc (suc (suc zero)))) l = omega (arith, h 0, h 1, h 2, h 3, h 4, h 5)
six_bits f h (suc (suc (suc (suc (suc zero))))) l = omega (arith, h 0, h 1, h 2, h 3, h 4, h 5)
six_bits f h (suc (suc (suc (suc (suc (suc r)))))) l = absurd (omega arith)

-- a number below 64 is made of its six bits
byte_bits : (w : ℕ) → w < 64 → sum 6 (λ j. bit w (5 - j) * 2 ^ (5 - j)) ≡ w
byte_bits w h = bits_ext 6 (sum 6 (λ j. bit w (5 - j) * 2 ^ (5 - j))) w small h by_place
  where
    f : ℕ → ℕ
    f j = bit w (5 - j)

    most : (j : ℕ) → f j ≤ 1
    most j = le_of_suc-le-suc (bit_lt w (5 - j))

    small : sum 6 (λ j. f j * 2 ^ (5 - j)) < 64
    small = omega (arith, six_most f most)

    by_place : (i : ℕ) → i < 6 → bit (sum 6 (λ j. f j * 2 ^ (5 - j))) i ≡ bit w i
    by_place i l =
        let back : 5 - (5 - i) ≡ i = omega arith in
        ap (bit (sum 6 (λ j. f j * 2 ^ (5 - j)))) (sym back) ∙ six_bits f most (5 - i) (omega arith) ∙ ap (bit w) back

-- ---- "padded with zeros": no bit from place k on is set

module _ (k : ℕ) (bits : List ℕ) where
  pub unset_from : ((i : ℕ) → k ≤ i → get_or bits i 0 ≡ 0) → every (eqb 0) (drop k bits) ≡ true
  unset_from h =
      every_all
      (all_places (drop k bits) (λ i l. ap (eqb 0) (get_or-drop k bits i 0 ∙ h (k + i) (le-add_right k i))))

  pub unset_at : every (eqb 0) (drop k bits) ≡ true → (i : ℕ) → k ≤ i → get_or bits i 0 ≡ 0
  unset_at e i h =
      ap (λ (j : ℕ). get_or bits j 0) (sym (add-sub_of_le h))
      ∙ sym (get_or-drop k bits (i - k) 0)
      ∙ elim (dec_lt (i - k) (length (drop k bits))) [
        | yes l ↦ sym (eqb-true 0 (get_or (drop k bits) (i - k) 0) (all_at 0 (all_every (eqb 0) (drop k bits) e) (i - k) l))
        | no l ↦ get_or-eq_default (drop k bits) 0 (omega arith)
      ]

  -- such bits may be left out
  pub unpadded : every (eqb 0) (drop k bits) ≡ true → (i : ℕ) → get_or (take k bits) i 0 ≡ get_or bits i 0
  unpadded e i =
      elim (dec_lt i k) [
        | yes l ↦ get_or-take k bits i 0 l
        | no l ↦ get_or-eq_default (take k bits) 0 (omega (arith, length-take k bits)) ∙ sym (unset_at e i (omega arith))
      ]

-- ---- packed and unpacked again: the same bits, and 0 behind them

pub unpacked_packed : (m : ℕ) {bits : List ℕ} → All (λ b. b ≤ 1) bits → length bits ≤ 6 * m → (k : ℕ) → get_or (unpacked (packed_in m bits)) k 0 ≡ get_or bits k 0
unpacked_packed m {bits} small fits k =
    elim (dec_lt (k / 6) m) [
      | yes l ↦
          unpacked_at (packed_in m bits) k (omega (arith, packed_in_length m bits))
          ∙ ap (λ (w : ℕ). bit (w - 63) (5 - k % 6)) (packed_in_at m bits (k / 6) l)
          ∙ ap (λ (w : ℕ). bit w (5 - k % 6)) (less_63 (sum 6 (λ j. get_or bits (6 * (k / 6) + j) 0 * 2 ^ (5 - j))))
          ∙ six_bits (λ j. get_or bits (6 * (k / 6) + j) 0) (λ j. bit_most small (6 * (k / 6) + j)) (k % 6) (omega arith)
          ∙ ap (λ (i : ℕ). get_or bits i 0) (div-add-mod k 6)
      | no l ↦
          get_or-eq_default (unpacked (packed_in m bits)) 0 (omega (arith, unpacked_length (packed_in m bits), packed_in_length m bits))
          ∙ sym (get_or-eq_default bits 0 (omega arith))
    ]
  where
    less_63 : (x : ℕ) → 63 + x - 63 ≡ x
    less_63 x = omega arith

-- ---- unpacked and packed again: the same bytes

-- a byte of six bits
abbrev pub Six : ℕ → Type 0
Six b = (63 ≤ b) × (b ≤ 126)

pub all_six : (bytes : List ℕ) → every holds_six bytes ≡ true → All Six bytes
all_six bytes e = all_mono (all_every holds_six bytes e) (λ b h. six_within h)

pub six_all : {bytes : List ℕ} → All Six bytes → every holds_six bytes ≡ true
six_all s = every_all (all_mono s (λ b h. within_six h.0 h.1))

pub packed_unpacked : {bytes : List ℕ} → All Six bytes → packed_in (length bytes) (unpacked bytes) ≡ bytes
packed_unpacked {bytes} six =
    packed_in_ext (length bytes) (unpacked bytes) refl
    (λ i l.
    (let byte = all_at 0 six i l in
    packed_in_at (length bytes) (unpacked bytes) i l
    ∙ ap (λ (x : ℕ). 63 + x)
    (sum_ext 6 (λ j. get_or (unpacked bytes) (6 * i + j) 0 * 2 ^ (5 - j)) (λ j. bit (get_or bytes i 0 - 63) (5 - j) * 2 ^ (5 - j))
    (λ j h. ap (λ (b : ℕ). b * 2 ^ (5 - j)) (unpacked_bit bytes i j l h))
    ∙ byte_bits (get_or bytes i 0 - 63) (omega arith))
    ∙ omega arith))
