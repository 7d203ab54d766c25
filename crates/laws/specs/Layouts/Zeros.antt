-- A loop that asks for 0 from n on, of bytes or of words.
use Rattle.std.specs.Prelude.{ℕ, ◌+◌, ◌≤◌, ◌<◌, ◌≡◌, true, false, List, get_or}
use Rattle.std.proofs.Common.{arith, sym, below_more}
use Rattle.model.specs.Layouts.{zero_from}
use Rattle.laws.specs.Sums.Indicators.{T_true}
use Rattle.laws.specs.Layouts.Validity.{zero_from_lem, zero_from_fails}

-- the entries from n on are 0 up to i
pub record ZeroUpTo (n : ℕ) (xs : List ℕ) (i : ℕ) : Type 0 where
  pub from : n ≤ i
  pub zeros : (k : ℕ) → k < i → n ≤ k → get_or xs k 0 ≡ 0

module _ {n : ℕ} {xs : List ℕ} where
  pub zero_none : ZeroUpTo n xs n
  zero_none = record { from = omega arith; zeros = λ k l m. absurd (omega arith) }

  module _ {i : ℕ} (s : ZeroUpTo n xs i) where
    pub zero_next : get_or xs i 0 ≡ 0 → ZeroUpTo n xs (i + 1)
    zero_next e = record { from = omega (arith, s.from); zeros = below_more (λ k. n ≤ k → get_or xs k 0 ≡ 0) i s.zeros (λ m. e) }

    pub zero_all : 64 ≤ i → true ≡ zero_from n xs
    zero_all l = sym (T_true (zero_from n xs) (zero_from_lem n xs (λ k m b. s.zeros k (omega arith) m)))

    pub zero_fails : i < 64 → (get_or xs i 0 ≡ 0 → ⊥) → false ≡ zero_from n xs
    zero_fails l d = sym (zero_from_fails n xs i s.from l d)
