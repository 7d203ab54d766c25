use Rattle.chart.specs.Reading.{read_once, read_repeated, words_read}
use Rattle.chart.proofs.read_edges.Goals as goal

pub returns-in_default : goal.returns-in_default
returns-in_default c =
    read_repeated c.requires c.body_of.ensures c.unwrap_err.ensures c.join_edges-different.ensures.result_value

pub read_order-requires : goal.read_order-requires
read_order-requires c =
    let said = c.join_edges-different.ensures in
    let once = read_once c.requires c.body_of.ensures c.in-Ok.is said.result_value in
    (once, words_read once.passed _ c.body_of.ensures said.adjacency_after)
