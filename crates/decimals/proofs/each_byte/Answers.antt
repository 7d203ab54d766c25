use Rattle.std.proofs.Common.{arith}
use Rattle.std.proofs.Math.Seq.{take_all}
use mathlib.Core.List.{flat_map}
use Rattle.model.specs.Listing.{spaced}
use Rattle.laws.specs.Buffers.Writing.{written_none, flat_map_next}
use Rattle.text.specs.Parts.{behind}
use Rattle.decimals.proofs.each_byte.Goals as goal

pub loop-byte-init : goal.loop-byte-init
unfolding flat_map
loop-byte-init c = (omega arith, written_none _ _)

pub loop-byte-preserved : goal.loop-byte-preserved
loop-byte-preserved c =
    let so_far = c.loop-byte.invariant in
    let put = c.put_small-to.ensures in
    let next = flat_map_next spaced c.args.bytes.now c.loop-byte.byte-index (omega (arith, c.loop-byte-test.true)) in
    (omega (arith, so_far.0, put.bound), rw next (behind so_far.1 (put.fits (omega (arith, so_far.0))) (omega (arith, so_far.0))))

pub returns : goal.returns
returns c =
    let so_far = c.loop-byte.invariant in
    let all = take_all c.loop-byte.byte-index c.args.bytes.now c.loop-byte-test.false in
    (rw all at so_far.1, omega (arith, so_far.0))
