use Rattle.edge_crossings.specs.Numbers.{NumberedUpTo}
use Rattle.edge_crossings.proofs.put_each.Given as goal

abbrev pub invariant-loop-i : goal.invariant-loop-i
invariant-loop-i l = NumberedUpTo l.chords l.places l.weights l.ends l.initial.table l.count l.table l.i
