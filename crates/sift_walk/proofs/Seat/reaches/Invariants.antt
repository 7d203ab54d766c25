use Rattle.sift_walk.specs.Reaching.{ReachingUpTo}
use Rattle.sift_walk.proofs.Seat.reaches.Given as goal

abbrev pub invariant-loop-i : goal.invariant-loop-i
invariant-loop-i l = ReachingUpTo l.self.n l.self.p l.self.order.now l.self.weights.now l.self.u l.reaches l.met l.i
