use Rattle.chart.specs.Reading.{read_within, read_outside}
use Rattle.chart.proofs.read_links.Goals as goal

pub returns-in_default : goal.returns-in_default
returns-in_default c = read_outside c.requires c.body_of.ensures c.unwrap_err.ensures c.ask_ends-within.ensures

pub read_edges-requires : goal.read_edges-requires
read_edges-requires c = read_within c.requires c.body_of.ensures c.in-Ok.is c.ask_ends-within.ensures
