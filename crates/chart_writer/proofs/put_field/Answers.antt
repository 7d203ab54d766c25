use mathlib.Core.Path.{refl}
use Rattle.chart_writer.specs.Fields.{field_put}
use Rattle.chart_writer.proofs.put_field.Goals as goal

pub returns : goal.returns
returns c =
    let given = c.requires in
    field_put c.put_header-start.ensures refl given.0 given.1 c.put_text.ensures
