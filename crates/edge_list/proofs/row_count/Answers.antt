use Rattle.edge_list.specs.Rows.{RowCounted, row_counted}
use Rattle.edge_list.proofs.row_count.Goals as goal
use Rattle.edge_list.proofs.row_count.Goals.{After-count-lower}

counted : (c : After-count-lower) → let s = c.args in RowCounted s.word s.a s.n c.count-below.result c.count-lower.result
counted c =
    row_counted c.requires.0 c.requires.1 c.low_bits.ensures c.count-below.ensures c.low_bits-2.ensures c.count-lower.ensures

pub overflow_sub-result : goal.overflow_sub-result
overflow_sub-result c = (counted c).inside

pub returns : goal.returns
returns c = (counted c).counted
