use Rattle.laws.specs.Tables.Rows.{taken_from}
use Rattle.weights.proofs.sub_row.Given as goal

abbrev pub ghost-change : goal.ghost-change
ghost-change a = taken_from
