use Rattle.laws.specs.Sums.Loops.{FilledUpTo}
use Rattle.laws.specs.Tables.Rows.{row_weight}
use Rattle.weights.proofs.row_weights.Given as goal

abbrev pub invariant-loop-v : goal.invariant-loop-v
invariant-loop-v l = FilledUpTo (λ x. row_weight l.weights x) 64 l.row-items l.v
