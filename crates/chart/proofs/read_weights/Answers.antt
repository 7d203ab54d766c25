use Rattle.std.proofs.Common.{lit≤}
use Rattle.chart.specs.Reading.{read_weighed, read_unweighed, earlier, table_read, read_all}
use Rattle.chart.proofs.read_weights.Goals as goal

pub returns-in_default : goal.returns-in_default
returns-in_default c =
    read_unweighed c.requires.0 _ c.weights_of-listed.ensures c.body_of-links.ensures c.unwrap_err.ensures c.ask_weights-weighed.ensures

pub returns : goal.returns
returns c =
    let links = c.body_of-links.ensures in
    let listed = c.weights_of-listed.ensures in
    let given = c.requires in
    let all = read_weighed given.0 _ listed links c.in-Ok.is c.ask_weights-weighed.ensures in
    read_all all given.1 given.2 (table_read (earlier 6 (lit≤ tt) all.passed) _ listed links c.set_weights.ensures) c.counted.ensures
