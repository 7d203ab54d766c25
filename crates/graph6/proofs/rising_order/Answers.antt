use Rattle.std.proofs.Common.{◌≤◌, refl, arith}
use Rattle.laws.specs.Sums.Loops.{made_start, made_next, made_end}
use Rattle.graph6.specs.Rising.{none_placed, one_placed}
use Rattle.graph6.proofs.rising_order.Goals as goal

pub loop-v-init : goal.loop-v-init
loop-v-init c = made_start _ none_placed

pub loop-v-preserved : goal.loop-v-preserved
loop-v-preserved c =
    let few : c.args.n ≤ 64 = c.requires in
    let inv = c.loop-v.invariant in
    made_next inv c.loop-v-test.true (one_placed (omega arith) inv.made)

pub returns : goal.returns
returns c = made_end c.loop-v.invariant c.loop-v-test.false refl
