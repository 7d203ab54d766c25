use Rattle.std.proofs.Common.{get_or, leb}
use Rattle.laws.specs.Sums.Below.{ToldBelow}
use Rattle.weights.proofs.light.all_unit.Given as goal

abbrev pub invariant-loop-w : goal.invariant-loop-w
invariant-loop-w l = ToldBelow (λ k. leb (get_or l.weights k 0) 1) 4096 (leb l.most 1) l.w-index
