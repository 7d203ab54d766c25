use Rattle.std.proofs.Common.{arith}
use Rattle.weight_list.specs.Weighed.{each_start, each_next}
use Rattle.weight_list.proofs.put_each.Goals as goal

pub loop-i-init : goal.loop-i-init
loop-i-init c = each_start c.requires.1

pub loop-i-preserved : goal.loop-i-preserved
loop-i-preserved c = each_next c.loop-i.invariant (omega (arith, c.loop-i-test.true)) c.weight_of.ensures
