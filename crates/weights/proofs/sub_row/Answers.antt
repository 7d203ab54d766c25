use Rattle.std.proofs.Common.{le_refl}
use Rattle.laws.specs.Tables.Rows.{taken_end}
use Rattle.weights.proofs.sub_row.Goals as goal

pub returns : goal.returns
returns c e = taken_end (c.change.ensures e) (le_refl 64)
