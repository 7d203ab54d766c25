use Rattle.std.proofs.Common.{[], refl, ap, add-one, drop-cons, drop_of_length-le}
use Rattle.chart_weights.specs.Listed.{ones, set_start, set_next, set_all}
use Rattle.chart_weights.proofs.set_ones.Goals as goal

pub loop-a-init : goal.loop-a-init
loop-a-init c = set_start refl refl

pub loop-a-preserved : goal.loop-a-preserved
loop-a-preserved c =
    let more = drop-cons c.args.pairs.now c.loop-a.a-index [] c.loop-a-test.true in
    rw (add-one c.loop-a.a-index) (set_next c.loop-a.invariant more (ap ones more) c.set_both.ensures)

pub returns : goal.returns
returns c = set_all c.loop-a.invariant (drop_of_length-le c.args.pairs.now c.loop-a-test.false)
