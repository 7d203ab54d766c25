use Rattle.std.proofs.Common.{◌<◌, refl, ◌∙◌, arith}
use Rattle.laws.specs.Sums.Loops.{made_start, made_next, made_end}
use Rattle.sift_walk.specs.Finding.{Found}
use Rattle.sifting.specs.Arrays.{walker}
use Rattle.sifting.specs.Sweeps.{round_is, swept_start, swept_bounds, swept_next_lem, ready}
use Rattle.sifting.proofs.rounds.sift_all.Goals as goal
use Rattle.sifting.proofs.rounds.sift_all.Goals.{After-best_order-best}

below : (c : After-best_order-best) → c.loop-u.u < c.args.table.now.n
below c = omega (arith, c.loop-u-test.true)

-- what the walk finds
found : (c : After-best_order-best)
    → let t = c.args.table.now in let now = c.loop-u in Found t.n now.state.order t.weights.now now.u c.best_order-best.result
found c =
    let now = ready c.requires.0 c.loop-u.invariant in
    c.best_order-best.ensures (walker now.drawn (below c)) c.requires.1

pub loop-u-init : goal.loop-u-init
loop-u-init c = made_start _ (swept_start _ _ _)

pub add-requires : goal.add-requires
add-requires c =
    let at = (goal.at.add-requires c).After-best_order-best in
    swept_bounds c.requires.0 c.loop-u.invariant (below at) (found at)

pub loop-u-preserved : goal.loop-u-preserved
loop-u-preserved c =
    let inv = c.loop-u.invariant in
    let at = (goal.at.loop-u-preserved c).After-best_order-best in
    made_next inv (below at) (swept_next_lem c.requires.0 inv (below at) (found at) c.add.ensures)

pub returns : goal.returns
returns c = made_end c.loop-u.invariant (omega (arith, c.loop-u-test.false)) refl ∙ round_is _ _ _
