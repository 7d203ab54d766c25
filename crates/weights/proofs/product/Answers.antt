use native.Mathlib.Omega.{arith}
use native.Mathlib.Nat.{mul-le-mul}
use Prim.Native.Nat.{ℕ, ◌*◌, ◌≤◌}
use Rattle.std.proofs.Common.{ap}
use Rattle.weights.proofs.product.Goals as goal

most : (a b : ℕ) → a ≤ 255 → b ≤ 32767 → a * b ≤ 8355585
most a b p q = mul-le-mul {n₂ = 255} {m₂ = 32767} p q

pub overflow_mul-result : goal.overflow_mul-result
overflow_mul-result c = record { fits = omega (arith, most c.args.a c.from.result c.requires (omega (arith, c.from.ensures))) }

pub returns : goal.returns
returns c = record { is = ap (λ (x : ℕ). c.args.a * x) c.from.ensures; small = most _ _ c.requires (omega (arith, c.from.ensures)) }
