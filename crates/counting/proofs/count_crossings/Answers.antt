use Rattle.std.proofs.Common.{arith, le-leb}
use Rattle.std.proofs.lemmas.Bool.{lt-leb}
use Rattle.laws.specs.Crossings.Masks.{vertex_at}
use Rattle.laws.specs.Tables.Counts.{counted}
use Rattle.counting.specs.Loops.{count_start, count_next, count_end}
use Rattle.counting.proofs.count_crossings.Goals as goal

pub returns-then-n-gt64 : goal.returns-then-n-gt64
unfolding counted
returns-then-n-gt64 c = rw (lt-leb _ _ c.if-n-gt64.true)

pub loop-j-init : goal.loop-j-init
loop-j-init c = count_start c.if-n-gt64.false

pub loop-j-preserved : goal.loop-j-preserved
unfolding vertex_at
loop-j-preserved c =
    let so_far = c.loop-j.invariant in
    count_next so_far c.loop-j-test.true c.count_row-total.ensures (c.add_row.ensures so_far.passed.size) (omega arith)

pub returns : goal.returns
unfolding counted
returns c = let end = c.loop-j.invariant in rw (le-leb _ _ end.small) (count_end end c.loop-j-test.false)
