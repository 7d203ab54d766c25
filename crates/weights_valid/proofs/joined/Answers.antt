use native.Mathlib.Omega.{arith}
use Rattle.weights_valid.specs.Pairs.{joined_bytes}
use Rattle.weights_valid.proofs.joined.Goals as goal

pub returns : goal.returns
returns c = let s = c.args in rw c.from.ensures (joined_bytes s.differences s.a s.b (omega arith))
