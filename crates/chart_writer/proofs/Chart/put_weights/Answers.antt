use Rattle.std.proofs.Common.{ap}
use Rattle.chart_writer.specs.Fields.{lent, weights_none, weights_put}
use Rattle.chart_writer.proofs.Chart.put_weights.Goals as goal

pub returns-in_default : goal.returns-in_default
unfolding lent
returns-in_default c = weights_none _ _ (ap lent c.in_default.is)

pub returns : goal.returns
unfolding lent
returns c =
    let given = c.requires in
    weights_put _ _ (ap lent c.in-Some.is) given.0 given.1 c.edge_count-count.ensures c.put_header-body.ensures c.put_weights.ensures
