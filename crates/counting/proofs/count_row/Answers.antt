use Rattle.std.proofs.Common.{◌+◌, ◌*◌, ◌<◌, ap₂, arith}
use Rattle.laws.specs.Crossings.Masks.{vertex_at}
use Rattle.counting.specs.Loops.{row_start, row_next, row_end}
use Rattle.counting.proofs.count_row.Goals as goal

pub loop-k-init : goal.loop-k-init
loop-k-init c = row_start c.requires.0 c.requires.1

pub loop-k-preserved : goal.loop-k-preserved
unfolding vertex_at
loop-k-preserved c =
    let later : c.args.j + 1 < c.loop-k.k = omega (arith, c.loop-k-test.true) in
    row_next c.requires.2 c.loop-k.invariant later (ap₂ ◌*◌ c.from.ensures c.from-in-loop-k.ensures) (omega arith) c.weight_at-beyond.ensures.is
    c.weight_at-beyond.ensures.small (omega arith) (omega arith)

pub returns : goal.returns
returns c = row_end c.loop-k.invariant (omega (arith, c.loop-k-test.false))
