use Rattle.std.proofs.Common.{arith}
use Rattle.laws.specs.Tables.Rows.{changing_start, changing_next}
use Rattle.weights.proofs.change.Goals as goal

pub loop-y-init : goal.loop-y-init
loop-y-init g c e = changing_start e

pub loop-y-preserved : goal.loop-y-preserved
loop-y-preserved g c e =
    changing_next (c.loop-y.invariant e) (omega arith) c.entry.ensures.is c.entry.ensures.small
    (c.requires.1.1.1 _ _ _ c.by.ensures) (omega arith)
