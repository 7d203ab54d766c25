-- Bit k of some bytes, by the byte that it stands in; and what a test of every byte says.
use Rattle.std.specs.Prelude.{ℕ, ◌-◌, ◌/◌, ◌%◌, ◌≤◌, ◌<◌, ◌≡◌, ◌↔◌, Bool, true, false, List, length, get_or, eqb, T}
use Rattle.std.proofs.Common.{arith, sym, ap, subst, ◌∙◌}
use Rattle.std.proofs.Math.ListN.{get_or-eq_default}
use Rattle.model.specs.Crossings.{bit}
use Rattle.model.specs.Graph6.{unpacked}
use Rattle.model.specs.Lists.{every}
use Rattle.laws.specs.Sums.Indicators.{T_true, bool_ext}
use Rattle.laws.specs.Sums.Lists.{all_at, all_places}
use Rattle.laws.specs.Sums.Every.{every_all, all_every}
use Rattle.laws.specs.Sums.Bits.{bit_beyond}
use Rattle.laws.specs.Graph6.Packing.{unpacked_length, unpacked_at}

module _ (bytes : List ℕ) (k : ℕ) where
  -- behind the last byte there is none
  pub bit_behind : length bytes ≤ k / 6 → false ≡ eqb (get_or (unpacked bytes) k 0) 1
  bit_behind h = sym (ap (λ (b : ℕ). eqb b 1) (get_or-eq_default (unpacked bytes) 0 (omega (arith, unpacked_length bytes))))

  pub bit_there : {r : Bool} → k / 6 < length bytes → r ≡ eqb (bit (get_or bytes (k / 6) 0 - 63) (5 - k % 6)) 1 → r ≡ eqb (get_or (unpacked bytes) k 0) 1
  bit_there h e = e ∙ ap (λ (b : ℕ). eqb b 1) (sym (unpacked_at bytes k h))

  -- a byte below 63 has none
  pub bit_low : k / 6 < length bytes → get_or bytes (k / 6) 0 < 63 → false ≡ eqb (get_or (unpacked bytes) k 0) 1
  bit_low h l = bit_there h (sym (ap (λ (b : ℕ). eqb b 1) (bit_beyond 0 (get_or bytes (k / 6) 0 - 63) (5 - k % 6) (omega arith) (omega arith))))

-- a test that is told of every entry
pub told_every : (p : ℕ → Bool) (xs : List ℕ) {r : Bool} → (r ≡ true ↔ ((k : ℕ) → k < length xs → p (get_or xs k 0) ≡ true)) → r ≡ every p xs
told_every p xs {r} told =
    bool_ext r (every p xs)
    (λ t. subst T (sym (every_all (all_places {P = λ x. p x ≡ true} xs (told.0 (T_true r t))))) tt)
    (λ t. subst T (sym (told.1 (all_at {P = λ x. p x ≡ true} 0 (all_every p xs (T_true (every p xs) t))))) tt)
