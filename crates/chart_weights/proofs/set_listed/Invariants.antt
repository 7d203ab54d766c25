use Rattle.std.specs.Slice.Iter.{iter_rest}
use Rattle.std.specs.Iterator.Adapters.{zip_first, zip_second}
use Rattle.chart_weights.specs.Listed.{SetUpTo}
use Rattle.chart_weights.proofs.set_listed.Given as goal

abbrev pub invariant-loop-a : goal.invariant-loop-a
invariant-loop-a l = SetUpTo l.initial.table l.pairs l.body l.table (iter_rest (zip_first l.a-iterator)) (iter_rest (zip_second l.a-iterator))
