use Rattle.chart_weights.specs.Listed.{listed_set, ones_set}
use Rattle.chart_weights.proofs.set_weights.Goals as goal

pub returns-in-Some : goal.returns-in-Some
returns-in-Some c = listed_set _ _ c.as_chunks.ensures.front c.in-Some.is c.set_listed.ensures

pub returns-in-None : goal.returns-in-None
returns-in-None c = ones_set _ _ c.as_chunks.ensures.front c.in-None.is c.set_ones.ensures
