use Rattle.std.proofs.Common.{arith}
use Rattle.laws.specs.Sums.Below.{told_start, told_next, told_end}
use Rattle.laws.specs.Layouts.Units.{none_above_one}
use Rattle.weights.specs.Light.{larger_tells}
use Rattle.weights.proofs.light.all_unit.Goals as goal

pub loop-w-init : goal.loop-w-init
loop-w-init c = told_start

pub loop-w-preserved : goal.loop-w-preserved
loop-w-preserved c = told_next c.loop-w.invariant (omega arith) (larger_tells _ _ c.max-most.ensures)

pub returns : goal.returns
unfolding none_above_one
returns c = told_end c.loop-w.invariant (omega arith)
