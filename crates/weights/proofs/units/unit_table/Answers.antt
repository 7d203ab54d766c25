use Rattle.std.proofs.Common.{arith, rules, refl}
use Rattle.model.specs.Crossings.{bit}
use Rattle.laws.specs.Sums.Loops.{filled_start, filled_next, filled_end}
use Rattle.weights.specs.Units.{unit_table}
use Rattle.weights.proofs.units.unit_table.Goals as goal

pub loop-i-init : goal.loop-i-init
loop-i-init c = filled_start (search rules)

pub loop-i-preserved : goal.loop-i-preserved
unfolding bit
loop-i-preserved c = filled_next c.loop-i.invariant (omega (arith, c.loop-i.invariant.size)) refl

pub returns : goal.returns
unfolding unit_table
returns c = filled_end c.loop-i.invariant (omega (arith, c.loop-i.invariant.size))
