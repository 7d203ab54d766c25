use Rattle.std.proofs.Common.{◌≡◌, ◌<◌, length, rules}
use Rattle.model.specs.Answers.{told_by, as_sifted}
use Rattle.model.specs.Layouts.{modulus}
use Rattle.sifting.specs.Arrays.{walker}
use Rattle.sifting.specs.Layouts.{layout_drawn, sift_answered}
use Rattle.sifting.proofs.sifts.sift_vertex.Goals as goal
use Rattle.sifting.proofs.sifts.sift_vertex.Goals.{Start}

-- the count has 64 bits, the array 64 places
fits : (c : Start) → c.args.l.count < modulus
fits c = search rules

size : (c : Start) → length c.args.l.order ≡ 64
size c = search rules

pub returns : goal.returns
unfolding as_sifted told_by
returns c =
    let drawn = layout_drawn c.args.l c.requires.0 (size (goal.at.returns c).Start) in
    let found = c.best_order-best.ensures (walker drawn c.requires.1) c.row_weights-rows.ensures in
    sift_answered c.args.l c.requires.0 (fits (goal.at.returns c).Start) (size (goal.at.returns c).Start) c.requires.1 found c.relaid.ensures
