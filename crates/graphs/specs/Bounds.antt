-- A word below a bound, by the largest that is.
use Rattle.std.specs.Prelude.{ℕ, suc, ◌≤◌, ◌<◌, ◌≡◌, ◌↔◌, Bool, true, false, List, length, get_or, ltb}
use Rattle.std.proofs.Common.{arith, lt-ltb, le-ltb, ltb-true}

module _ {word most bound : ℕ} (e : suc most ≡ bound) where
  pub within_most : word ≤ most → ltb word bound ≡ true
  within_most l = lt-ltb word bound (omega arith)

  pub beyond_most : most < word → ltb word bound ≡ false
  beyond_most l = le-ltb word bound (omega arith)

-- so of a test of every word
pub told_most : {r : Bool} {most bound : ℕ} (words : List ℕ) → length words ≡ 64 → suc most ≡ bound
    → (r ≡ true ↔ ((k : ℕ) → k < length words → get_or words k 0 ≤ most)) → (r ≡ true ↔ ((k : ℕ) → k < 64 → ltb (get_or words k 0) bound ≡ true))
told_most words size e h =
    (λ t k l. within_most e (h.0 t k (omega arith)), λ f. h.1 (λ k l. omega (arith, ltb-true _ _ (f k (omega arith)))))
