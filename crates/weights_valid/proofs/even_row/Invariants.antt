use Prim.Native.Nat.{suc}
use lib.Dec.{eqb}
use Rattle.laws.specs.Sums.Below.{ToldBelow}
use Rattle.weights_valid.specs.Pairs.{even_pair}
use Rattle.weights_valid.proofs.even_row.Given as goal

abbrev pub invariant-loop-v : goal.invariant-loop-v
invariant-loop-v l = ToldBelow (even_pair l.weights l.u) (suc l.u) (eqb l.differences 0) l.v
