use Rattle.counting.specs.Loops.{RowFrom}
use Rattle.counting.proofs.count_row.Given as goal

abbrev pub invariant-loop-k : goal.invariant-loop-k
invariant-loop-k l = RowFrom l.n l.order l.weights l.j l.beyond l.total l.k
