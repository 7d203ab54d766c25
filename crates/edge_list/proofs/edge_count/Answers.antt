use Rattle.std.proofs.Common.{arith, length, sym, ap}
use Rattle.edge_list.specs.Rows.{count_none, count_next, count_all, listed_many}
use Rattle.edge_list.proofs.edge_count.Goals as goal

pub returns-then-n-gt64 : goal.returns-then-n-gt64
returns-then-n-gt64 c = sym (ap length (listed_many _ _ c.if-n-gt64.true))

pub loop-a-init : goal.loop-a-init
loop-a-init c = count_none c.if-n-gt64.false

pub overflow_add-total : goal.overflow_add-total
overflow_add-total c =
    let next = count_next c.loop-a.invariant c.loop-a-test.true c.row_count-total.ensures in
    omega (arith, next.few, next.inside, next.bounded)

pub loop-a-preserved : goal.loop-a-preserved
loop-a-preserved c =
    count_next c.loop-a.invariant c.loop-a-test.true c.row_count-total.ensures

pub returns : goal.returns
returns c = count_all c.loop-a.invariant c.loop-a-test.false
