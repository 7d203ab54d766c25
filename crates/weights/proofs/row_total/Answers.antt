use Rattle.laws.specs.Tables.Rows.{row_weight, summed_start, summed_next, summed_end}
use Rattle.weights.proofs.row_total.Goals as goal

pub loop-i-init : goal.loop-i-init
loop-i-init c = summed_start

pub loop-i-preserved : goal.loop-i-preserved
loop-i-preserved c =
    summed_next c.loop-i.invariant c.loop-i-test.true c.entry-total.ensures.is c.entry-total.ensures.small

pub returns : goal.returns
unfolding row_weight
returns c = summed_end c.loop-i.invariant c.loop-i-test.false
