use native.Mathlib.Omega.{arith}
use Rattle.sift_walk.specs.Reaching.{reaching_start, reaching_next, reaching_end}
use Rattle.sift_walk.proofs.Seat.reaches.Goals as goal

pub loop-i-init : goal.loop-i-init
loop-i-init c = reaching_start

pub loop-i-preserved : goal.loop-i-preserved
loop-i-preserved c =
    let v = c.other_at-v.ensures in
    let seat = c.args.self.now in
    reaching_next c.loop-i.invariant seat.few (omega arith) (omega (arith, c.loop-i-test.true)) v.0 v.1 c.weight_at-w.ensures.is
    c.weight_at-w.ensures.small

pub returns : goal.returns
returns c = reaching_end c.loop-i.invariant (omega (arith, c.loop-i-test.false))
