use Rattle.weights_valid.specs.Bytes.{AddedUpTo}
use Rattle.weights_valid.proofs.add_row.Given as goal

abbrev pub invariant-loop-v : goal.invariant-loop-v
invariant-loop-v l = AddedUpTo l.weights l.u l.initial.bits l.bits l.v
