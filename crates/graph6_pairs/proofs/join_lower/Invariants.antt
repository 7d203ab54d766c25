use Rattle.graph6_pairs.specs.Joining.{LowerJoined}
use Rattle.graph6_pairs.proofs.join_lower.Given as goal

abbrev pub invariant-loop-a : goal.invariant-loop-a
invariant-loop-a l = LowerJoined l.bytes l.b l.adjacency l.a
