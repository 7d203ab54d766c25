use Rattle.orders.specs.Seen.{SeenUpTo}
use Rattle.orders.proofs.each_once.Given as goal

abbrev pub invariant-loop-v : goal.invariant-loop-v
invariant-loop-v l = SeenUpTo l.n l.order l.seen l.v-index
