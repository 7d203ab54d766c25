use Rattle.edge_list.specs.Rows.{RowsPut}
use Rattle.edge_list.proofs.put_rows.Given as goal

abbrev pub invariant-loop-a : goal.invariant-loop-a
invariant-loop-a l = RowsPut l.n l.adjacency l.initial.out l.at l.out l.to l.a
