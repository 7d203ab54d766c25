use Rattle.std.proofs.Common.{drop}
use Rattle.chart_bodies.specs.Words.{JoinedUpTo}
use Rattle.chart_bodies.proofs.join_edges.Given as goal

abbrev pub invariant-loop-a : goal.invariant-loop-a
invariant-loop-a l = JoinedUpTo l.links l.joined (drop l.a-index l.pairs)
