use Rattle.small_order.specs.Indices.{SeenUpTo}
use Rattle.small_order.proofs.unplaced_at.Given as goal

abbrev pub invariant-loop-v : goal.invariant-loop-v
invariant-loop-v l = SeenUpTo l.n l.bits l.k l.lower l.v
