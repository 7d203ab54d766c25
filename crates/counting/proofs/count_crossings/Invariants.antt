use Rattle.counting.specs.Loops.{CountUpTo}
use Rattle.counting.proofs.count_crossings.Given as goal

abbrev pub invariant-loop-j : goal.invariant-loop-j
invariant-loop-j l = CountUpTo l.n l.order l.weights l.before l.total l.j
