use Prim.Native.Nat.{ℕ, ◌+◌, ◌%◌}
use native.Mathlib.Omega.{arith}
use mathlib.Core.Path.{ap}
use Rattle.graph6_pairs.proofs.pair_place.Goals as goal

pub overflow_add-result : goal.overflow_add-result
overflow_add-result c = omega (arith, c.pair_count.ensures.small)

pub returns : goal.returns
returns c = ap (λ (k : ℕ). k + c.args.a % 64) c.pair_count.ensures.is
