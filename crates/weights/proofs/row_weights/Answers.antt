use Rattle.std.proofs.Common.{arith, rules}
use Rattle.laws.specs.Sums.Loops.{filled_start, filled_next}
use Rattle.weights.proofs.row_weights.Goals as goal

pub loop-v-init : goal.loop-v-init
loop-v-init c = filled_start (search rules)

pub loop-v-preserved : goal.loop-v-preserved
loop-v-preserved c = filled_next c.loop-v.invariant (omega (arith, c.loop-v.invariant.size)) c.row_total.ensures.is

pub returns : goal.returns
returns c = record { row_is = λ v l. c.loop-v.invariant.filled v (omega (arith, c.loop-v.invariant.size)) }
