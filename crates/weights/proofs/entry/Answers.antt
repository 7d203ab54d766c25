use Rattle.std.proofs.Common.{arith}
use Rattle.laws.specs.Tables.Rows.{table_weight}
use Rattle.weights.proofs.entry.Goals as goal

pub returns : goal.returns
unfolding table_weight
returns c = record { is = c.from.ensures; small = omega (arith, c.from.ensures) }
