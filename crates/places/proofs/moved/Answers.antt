use borrow.Author.Rules.{rules}
use Prim.Native.Nat.{ℕ}
use native.Mathlib.Omega.{arith}
use mathlib.Core.Path.{ap}
use lib.ListN.{get_or}
use borrow.Author.Tests.{lt-ltb}
use Rattle.laws.specs.Sums.Loops.{filled_start, filled_next, filled_end}
use Rattle.places.specs.MovedPlaces.{shifted}
use Rattle.places.proofs.moved.Goals as goal

pub loop-i-init : goal.loop-i-init
loop-i-init c = filled_start (search rules)

pub bounds-order-moved_from : goal.bounds-order-moved_from
bounds-order-moved_from c = omega (arith, c.moved_from.ensures.small)

pub loop-i-preserved : goal.loop-i-preserved
loop-i-preserved c =
    let order = c.args.order in
    filled_next c.loop-i.invariant (omega (arith, c.loop-i.invariant.size)) (ap (λ (k : ℕ). get_or order k 0) c.moved_from.ensures.is)

pub returns : goal.returns
unfolding shifted
returns c =
    let filled = filled_end c.loop-i.invariant (omega (arith, c.loop-i.invariant.size)) in
    rw (lt-ltb c.args.p 64 (omega arith), lt-ltb c.args.q 64 (omega arith)) filled
