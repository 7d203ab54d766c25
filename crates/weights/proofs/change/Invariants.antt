use Rattle.std.proofs.Common.{◌≡◌, length}
use Rattle.laws.specs.Tables.Rows.{ChangingUpTo}
use Rattle.weights.proofs.change.Given as goal

abbrev pub invariant-loop-y : goal.invariant-loop-y
invariant-loop-y g l = length l.initial.numbers ≡ 64 → ChangingUpTo g.f l.weights l.v l.initial.numbers l.numbers l.y
