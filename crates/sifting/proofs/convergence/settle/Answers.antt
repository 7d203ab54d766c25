use Rattle.std.proofs.Common.{◌≡◌, ◌<◌, length, rules}
use Rattle.model.specs.Answers.{told_by, as_converged}
use Rattle.model.specs.Layouts.{modulus}
use Rattle.sifting.specs.Layouts.{layout_drawn, rounds_answered}
use Rattle.sifting.proofs.convergence.settle.Goals as goal
use Rattle.sifting.proofs.convergence.settle.Goals.{Start}

-- the count has 64 bits, the array 64 places
fits : (c : Start) → c.args.l.count < modulus
fits c = search rules

size : (c : Start) → length c.args.l.order ≡ 64
size c = search rules

pub run_rounds-end-requires : goal.run_rounds-end-requires
run_rounds-end-requires c =
    (layout_drawn c.args.l c.requires.0 (size (goal.at.run_rounds-end-requires c).Start), c.row_weights-rows.ensures, c.requires.1)

pub returns : goal.returns
unfolding as_converged told_by
returns c =
    rounds_answered c.args.l c.requires.0 (fits (goal.at.returns c).Start) c.args.limit c.run_rounds-end.ensures c.relaid.ensures
