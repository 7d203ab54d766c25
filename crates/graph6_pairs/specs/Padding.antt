-- The bits behind those of the pairs, looked at one after the other.
use Rattle.std.specs.Prelude.{ℕ, ◌+◌, ◌*◌, ◌-◌, ◌/◌, ◌≤◌, ◌<◌, ◌≡◌, refl, Bool, true, false, not, ◌&&◌, zero, suc, List, length, get_or, drop, eqb}
use Rattle.std.proofs.Math.Decide.{dec_lt}
use Rattle.std.specs.List.{list_all, range_with_len}
use Rattle.std.proofs.Common.{arith, ap, ap₂, ◌∙◌, add-one, drop-cons, drop_of_length-le, eq-eqb, ne_eqb, eqb-true}
use Rattle.std.proofs.Math.Path.{sym}
use Rattle.std.proofs.Math.ListN.{get_or-eq_default}
use Rattle.std.proofs.lemmas.Bool.{eqb-false}
use Rattle.model.specs.Lists.{every}
use Rattle.model.specs.Graph6.{bytes_for, unpacked}
use Rattle.laws.specs.Sums.Bits.{bit_lt}
use Rattle.laws.specs.Graph6.Packing.{unpacked_length, unpacked_at}

module _ (bytes : List ℕ) (k : ℕ) where
  -- a bit is 0 or 1
  bit_few : get_or (unpacked bytes) k 0 < 2
  bit_few =
      elim (dec_lt (k / 6) (length bytes)) [
        | yes l ↦ rw (unpacked_at bytes k l) (bit_lt _ _)
        | no l ↦
            (let behind : length (unpacked bytes) ≤ k = omega (arith, unpacked_length bytes) in
            rw (get_or-eq_default (unpacked bytes) 0 behind) (omega arith))
      ]

  unset_zero : eqb (get_or (unpacked bytes) k 0) 1 ≡ false → eqb 0 (get_or (unpacked bytes) k 0) ≡ true
  unset_zero e = eq-eqb 0 (get_or (unpacked bytes) k 0) (omega (arith, bit_few, eqb-false (get_or (unpacked bytes) k 0) 1 e))

  set_other : eqb (get_or (unpacked bytes) k 0) 1 ≡ true → eqb 0 (get_or (unpacked bytes) k 0) ≡ false
  set_other e = ne_eqb 0 (get_or (unpacked bytes) k 0) (λ z. omega (arith, eqb-true (get_or (unpacked bytes) k 0) 1 e))

-- from place k on, n bits up to the end
pub padding_clear : (bytes : List ℕ) (k n : ℕ) → k + n ≡ length (unpacked bytes)
    → list_all (λ i. not (eqb (get_or (unpacked bytes) i 0) 1)) (range_with_len k n) ≡ every (eqb 0) (drop k (unpacked bytes))
unfolding every
padding_clear bytes k zero e = sym (ap (every (eqb 0)) (drop_of_length-le (unpacked bytes) {i = k} (omega arith)))
padding_clear bytes k (suc n) e =
    let bit = get_or (unpacked bytes) k 0 in
    ap₂ (λ (a b : Bool). a && b) (unset_is_zero (eqb bit 1) refl) (padding_clear bytes (k + 1) n (omega arith))
    ∙ sym
    (ap (every (eqb 0)) (drop-cons (unpacked bytes) k 0 (omega arith))
    ∙ ap (λ (i : ℕ). eqb 0 bit && every (eqb 0) (drop i (unpacked bytes))) (sym (add-one k)))
  where
    unset_is_zero : (t : Bool) → eqb (get_or (unpacked bytes) k 0) 1 ≡ t → not t ≡ eqb 0 (get_or (unpacked bytes) k 0)
    unset_is_zero true h = sym (set_other bytes k h)
    unset_is_zero false h = sym (unset_zero bytes k h)

-- the bits behind those of p pairs, in as many bytes as these take
pub padding_all : (p : ℕ) (bytes : List ℕ) → length bytes ≡ bytes_for p
    → list_all (λ i. not (eqb (get_or (unpacked bytes) i 0) 1)) (range_with_len p (6 * bytes_for p - p)) ≡ every (eqb 0) (drop p (unpacked bytes))
unfolding bytes_for
padding_all p bytes long = padding_clear bytes p (6 * ((p + 5) / 6) - p) (omega (arith, unpacked_length bytes, long))
