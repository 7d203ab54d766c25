use Rattle.std.proofs.Common.{drop}
use Rattle.chart_weights.specs.Listed.{ones, SetUpTo}
use Rattle.chart_weights.proofs.set_ones.Given as goal

abbrev pub invariant-loop-a : goal.invariant-loop-a
invariant-loop-a l = SetUpTo l.initial.table l.pairs (ones l.pairs) l.table (drop l.a-index l.pairs) (ones (drop l.a-index l.pairs))
