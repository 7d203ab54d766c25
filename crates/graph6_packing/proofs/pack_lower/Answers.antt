use Rattle.graph6_packing.specs.Bits.{place_few, place_free, lower_start, lower_next, lower_end}
use Rattle.graph6_packing.proofs.pack_lower.Goals as goal

pub loop-a-init : goal.loop-a-init
loop-a-init c = lower_start c.requires.0 c.requires.1

pub pack_bit-requires : goal.pack_bit-requires
pack_bit-requires c =
    let so_far = c.loop-a.invariant in
    let place = c.pair_place.ensures in
    (place_few so_far c.loop-a-test.true place, place_free so_far c.loop-a-test.true place)

pub loop-a-preserved : goal.loop-a-preserved
loop-a-preserved c =
    lower_next c.loop-a.invariant c.loop-a-test.true c.pair_place.ensures c.is_set.ensures c.pack_bit.ensures

pub returns : goal.returns
returns c = lower_end c.loop-a.invariant c.loop-a-test.false
