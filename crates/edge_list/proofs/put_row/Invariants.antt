use Rattle.edge_list.specs.Rows.{RowPut}
use Rattle.edge_list.proofs.put_row.Given as goal

abbrev pub invariant-loop-b : goal.invariant-loop-b
invariant-loop-b l = RowPut l.word l.a l.n l.initial.out l.at l.out l.to l.b
