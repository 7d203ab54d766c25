use Rattle.sift_walk.specs.Walks.{WalkUpTo}
use Rattle.sift_walk.proofs.Seat.pass_all.Given as goal

abbrev pub invariant-loop-j : goal.invariant-loop-j
invariant-loop-j l = WalkUpTo l.self.n l.self.p l.self.order.now l.self.weights.now l.self.rows.now l.self.u l.step l.behind l.j
