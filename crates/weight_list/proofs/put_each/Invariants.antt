use Rattle.weight_list.specs.Weighed.{WeighedUpTo}
use Rattle.weight_list.proofs.put_each.Given as goal

abbrev pub invariant-loop-i : goal.invariant-loop-i
invariant-loop-i l = WeighedUpTo l.weights l.ends l.initial.out l.at l.count l.out l.i
