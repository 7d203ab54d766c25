use Rattle.weights_valid.specs.Bytes.{BitsFrom}
use Rattle.weights_valid.proofs.group_fits.Given as goal

abbrev pub invariant-loop-j : goal.invariant-loop-j
invariant-loop-j l = BitsFrom l.weights l.k l.bits l.j
