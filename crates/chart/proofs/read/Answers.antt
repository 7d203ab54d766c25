use Rattle.chart.specs.Reading.{read_divided, read_undivided}
use Rattle.chart.proofs.read.Goals as goal

pub returns-in_default : goal.returns-in_default
returns-in_default c = read_undivided _ c.unwrap_err.ensures c.ask_fields-divided.ensures

pub read_divided-requires : goal.read_divided-requires
read_divided-requires c = read_divided _ c.in-Ok.is c.ask_fields-divided.ensures
