use Rattle.std.proofs.Common.{refl}
use Rattle.chart_writer.specs.Fields.{links_put}
use Rattle.chart_writer.proofs.Chart.put_links.Goals as goal

pub returns : goal.returns
returns c =
    let given = c.requires in
    links_put c.put_header-body.ensures _ _ given.0 given.1 c.edge_count-count.ensures refl c.put_edges.ensures
