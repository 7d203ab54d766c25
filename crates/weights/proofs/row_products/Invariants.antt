use Prim.Native.Nat.{◌*◌, ◌%◌}
use lib.ListN.{get_or}
use Rattle.laws.specs.Tables.Rows.{table_weight, SummedUpTo}
use Rattle.weights.proofs.row_products.Given as goal

abbrev pub invariant-loop-i : goal.invariant-loop-i
invariant-loop-i l = SummedUpTo (λ y. table_weight l.weights l.v y * (get_or l.numbers y 0 % 32768)) 8355585 l.total l.i
