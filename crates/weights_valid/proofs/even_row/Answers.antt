use native.Mathlib.Omega.{arith}
use Rattle.model.specs.Layouts.{table_weight}
use Rattle.laws.specs.Sums.Below.{told_start, told_next, told_end}
use Rattle.weights_valid.specs.Pairs.{even_row}
use Rattle.weights_valid.proofs.even_row.Goals as goal

pub loop-v-init : goal.loop-v-init
loop-v-init c = told_start

pub loop-v-preserved : goal.loop-v-preserved
unfolding table_weight
loop-v-preserved c =
    told_next c.loop-v.invariant (omega (arith, c.loop-v-test.true)) c.joined-differences.ensures

pub returns : goal.returns
unfolding even_row
returns c = told_end c.loop-v.invariant (omega (arith, c.loop-v-test.false))
