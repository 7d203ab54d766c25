use Rattle.laws.specs.Tables.Rows.{table_weight, SummedUpTo}
use Rattle.weights.proofs.row_total.Given as goal

abbrev pub invariant-loop-i : goal.invariant-loop-i
invariant-loop-i l = SummedUpTo (λ y. table_weight l.weights l.v y) 255 l.total l.i
