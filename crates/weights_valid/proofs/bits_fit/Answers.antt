use native.Mathlib.Omega.{arith}
use lib.ListN.{get_or}
use Rattle.laws.specs.Sums.Below.{told_start, told_next, told_end}
use Rattle.weights_valid.specs.Bytes.{bits_fit, joined_byte}
use Rattle.weights_valid.proofs.bits_fit.Goals as goal

pub loop-v-init : goal.loop-v-init
loop-v-init c = told_start

pub byte_of-requires : goal.byte_of-requires
byte_of-requires c = c.requires

pub loop-v-preserved : goal.loop-v-preserved
loop-v-preserved c =
    let loop = c.loop-v in
    let other = get_or c.args.bits.now loop.v 0 in
    told_next loop.invariant (omega (arith, c.loop-v-test.true))
    (joined_byte _ _ loop.differences other c.joined-differences.result c.byte_of.ensures c.joined-differences.ensures)

pub returns : goal.returns
unfolding bits_fit
returns c = told_end c.loop-v.invariant (omega (arith, c.loop-v-test.false))
