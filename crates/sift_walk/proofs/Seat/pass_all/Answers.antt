use native.Mathlib.Omega.{arith}
use Rattle.sift_walk.specs.Walks.{walking_start, walking_end}
use Rattle.sift_walk.proofs.Walks.{walking_next}
use Rattle.sift_walk.proofs.Seat.pass_all.Goals as goal

pub loop-j-init : goal.loop-j-init
loop-j-init c = walking_start

pub loop-j-preserved : goal.loop-j-preserved
loop-j-preserved c =
    let seat = c.args.self.now in
    let v = c.other_at-v.ensures in
    walking_next c.loop-j.invariant seat.few (omega arith) v.1 c.row_weight-whole.ensures.is c.reaches-reaches.ensures
    (omega (arith, c.loop-j-test.true)) v.0 c.passing-step.ensures c.add_row.ensures

pub returns : goal.returns
returns c = walking_end c.loop-j.invariant c.args.self.now.few (omega (arith, c.loop-j-test.false))
