use Rattle.edge_list.specs.Rows.{RowsCounted}
use Rattle.edge_list.proofs.edge_count.Given as goal

abbrev pub invariant-loop-a : goal.invariant-loop-a
invariant-loop-a l = RowsCounted l.n l.adjacency l.total l.a
