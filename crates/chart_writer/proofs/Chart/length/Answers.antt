use Rattle.std.proofs.Common.{ℕ, ◌+◌, ◌*◌, ap, ◌∙◌, le-leb}
use Rattle.edge_list.specs.Rows.{listed_few}
use Rattle.std.proofs.Math.ListN.{length}
use Rattle.chart_writer.specs.Fields.{lent, weight_room}
use Rattle.chart_writer.proofs.Chart.length.Goals as goal

pub returns : goal.returns
returns c =
    let s = c.args.self.now in
    let few = c.if-self-gt64.false in
    rw (le-leb s.n 64 few, c.weights_length.ensures)
    (ap (λ (k : ℕ). 10 + 2 * k + s.n + weight_room (lent s.weights) k) (c.edge_count-edges.ensures ∙ ap length (listed_few s.n s.adjacency few)))
