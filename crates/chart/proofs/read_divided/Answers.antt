use Rattle.chart.specs.Reading.{read_tagged, read_untagged}
use Rattle.chart.proofs.read_divided.Goals as goal

pub returns-in_default : goal.returns-in_default
returns-in_default c = read_untagged c.requires c.unwrap_err.ensures c.ask_tags-tagged.ensures

pub read_fields-requires : goal.read_fields-requires
read_fields-requires c = read_tagged c.requires c.in-Ok.is c.ask_tags-tagged.ensures
