-- Differences of 32-bit numbers that wrap, where they need not.
use Rattle.std.specs.Prelude.{ℕ, ◌+◌, ◌%◌, ◌^◌, ◌<◌, ◌≡◌}
use Rattle.std.proofs.Common.{arith}

-- a difference that does not go below 0
pub exact_less : {r a : ℕ} (b x : ℕ) → r < 2 ^ 32 → a < 2 ^ 32 → (r + b) % 2 ^ 32 ≡ a → a ≡ x + b → r ≡ x
exact_less b x h l e d = omega arith
