use Rattle.laws.specs.Sums.Below.{PassedBelow}
use Rattle.weights_valid.specs.Pairs.{even_row}
use Rattle.weights_valid.proofs.even.Given as goal

abbrev pub invariant-loop-u : goal.invariant-loop-u
invariant-loop-u l = PassedBelow (even_row l.weights) l.n l.u
