use native.Mathlib.Omega.{arith}
use Rattle.weights_valid.specs.Bytes.{bits_start, bits_few, bits_next, bits_group}
use Rattle.weights_valid.proofs.group_fits.Goals as goal

pub loop-j-init : goal.loop-j-init
loop-j-init c = bits_start

pub overflow_add-k : goal.overflow_add-k
overflow_add-k c = omega (arith, c.loop-j.invariant.inside)

pub add_row-requires : goal.add_row-requires
add_row-requires c =
    let so_far = c.loop-j.invariant in
    (omega (arith, so_far.inside, c.requires), bits_few so_far (omega (arith, c.loop-j-test.true)))

pub loop-j-preserved : goal.loop-j-preserved
loop-j-preserved c =
    bits_next c.loop-j.invariant (omega (arith, c.loop-j-test.true)) c.add_row.ensures

pub bits_fit-requires : goal.bits_fit-requires
bits_fit-requires c = c.requires

pub returns : goal.returns
returns c =
    bits_group _ c.loop-j.invariant (omega (arith, c.loop-j-test.false)) c.bits_fit.ensures
