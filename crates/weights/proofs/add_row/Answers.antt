use Rattle.std.proofs.Common.{le_refl}
use Rattle.laws.specs.Tables.Rows.{added_end}
use Rattle.weights.proofs.add_row.Goals as goal

pub returns : goal.returns
returns c e = added_end (c.change.ensures e) (le_refl 64)
