use Prim.Native.Nat.{ℕ, ◌+◌, ◌/◌}
use native.Mathlib.Omega.{arith}
use mathlib.Core.Path.{ap}
use Rattle.model.specs.Graph6.{bytes_for}
use Rattle.graph6_pairs.proofs.data_length.Goals as goal

pub overflow_add-result : goal.overflow_add-result
overflow_add-result c = omega (arith, c.pair_count.ensures.small)

pub returns : goal.returns
unfolding bytes_for
returns c = ap (λ (k : ℕ). (k + 5) / 6) c.pair_count.ensures.is
