use Rattle.std.proofs.Common.{◌≡◌, ◌<◌, length, rules}
use Rattle.model.specs.Answers.{told_by, as_rounded}
use Rattle.model.specs.Layouts.{modulus}
use Rattle.sifting.specs.Layouts.{layout_drawn, round_answered}
use Rattle.sifting.proofs.rounds.sift_vertices.Goals as goal
use Rattle.sifting.proofs.rounds.sift_vertices.Goals.{Start}

-- the count has 64 bits, the array 64 places
fits : (c : Start) → c.args.l.count < modulus
fits c = search rules

size : (c : Start) → length c.args.l.order ≡ 64
size c = search rules

pub sift_all-swept-requires : goal.sift_all-swept-requires
sift_all-swept-requires c = (layout_drawn c.args.l c.requires (size (goal.at.sift_all-swept-requires c).Start), c.row_weights-rows.ensures)

pub returns : goal.returns
unfolding as_rounded told_by
returns c =
    round_answered c.args.l c.requires (fits (goal.at.returns c).Start) c.sift_all-swept.ensures c.relaid.ensures
