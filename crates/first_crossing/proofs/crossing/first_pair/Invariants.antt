use Rattle.first_crossing.specs.Search.{FirstsPassed, SecondsPassed}
use Rattle.first_crossing.proofs.crossing.first_pair.Given as goal

abbrev pub invariant-loop-first : goal.invariant-loop-first
invariant-loop-first l = FirstsPassed l.n l.order l.count l.ends l.first

abbrev pub invariant-loop-second : goal.invariant-loop-second
invariant-loop-second l = SecondsPassed l.n l.order l.count l.ends l.first l.second
