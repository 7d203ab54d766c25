use Rattle.edge_list.specs.Rows.{rows_start, rows_room, rows_next, rows_end}
use Rattle.edge_list.proofs.put_rows.Goals as goal

pub loop-a-init : goal.loop-a-init
loop-a-init c = rows_start c.requires.0 c.requires.1

pub put_row-to-requires : goal.put_row-to-requires
put_row-to-requires c =
    let inv = c.loop-a.invariant in
    let more = c.loop-a-test.true in
    (inv.few, more, rows_room inv more)

pub loop-a-preserved : goal.loop-a-preserved
loop-a-preserved c =
    rows_next c.loop-a.invariant c.loop-a-test.true c.put_row-to.ensures

pub returns : goal.returns
returns c = rows_end c.loop-a.invariant c.loop-a-test.false
