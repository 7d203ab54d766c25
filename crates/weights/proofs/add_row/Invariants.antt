use Rattle.laws.specs.Tables.Rows.{added_to}
use Rattle.weights.proofs.add_row.Given as goal

abbrev pub ghost-change : goal.ghost-change
ghost-change a = added_to
