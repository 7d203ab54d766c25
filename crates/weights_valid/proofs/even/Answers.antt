use native.Mathlib.Omega.{arith}
use Rattle.laws.specs.Sums.Below.{below_start, below_next, below_all, below_fails}
use Rattle.weights_valid.specs.Pairs.{even_below}
use Rattle.weights_valid.proofs.even.Goals as goal

pub loop-u-init : goal.loop-u-init
loop-u-init c = below_start

pub returns-then-not-even_row : goal.returns-then-not-even_row
unfolding even_below
returns-then-not-even_row c =
    below_fails c.loop-u.invariant (omega (arith, c.loop-u-test.true)) c.even_row.ensures (c.if-not-even_row.true)

pub loop-u-preserved : goal.loop-u-preserved
loop-u-preserved c =
    below_next c.loop-u.invariant (omega (arith, c.loop-u-test.true)) c.even_row.ensures (c.if-not-even_row.false)

pub returns : goal.returns
unfolding even_below
returns c = below_all c.loop-u.invariant (omega (arith, c.loop-u-test.false))
