use Rattle.std.proofs.Common.{◌≡◌, ap, ◌∙◌}
use Rattle.model.specs.Charts.{body_of, size_found, size_answer}
use Rattle.chart.specs.Reading.{read_sized, read_missized}
use Rattle.chart.proofs.read_fields.Goals as goal
use Rattle.chart.proofs.read_fields.Goals.{After-find_size-found}

-- question 4 is asked of the body of field 44
size_said : (c : After-find_size-found) → size_found c.find_size-found.result ≡ size_answer (body_of c.args.bytes.now 0)
size_said c = c.find_size-found.ensures ∙ ap size_answer c.body_of.ensures

pub returns-in_default : goal.returns-in_default
returns-in_default c =
    read_missized c.requires c.unwrap_err.ensures (size_said (goal.at.returns-in_default c).After-find_size-found)

pub read_links-requires : goal.read_links-requires
read_links-requires c = read_sized c.requires c.in-Ok.is (size_said (goal.at.read_links-requires c).After-find_size-found)
