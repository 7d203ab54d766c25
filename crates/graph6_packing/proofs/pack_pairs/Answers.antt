use Rattle.laws.specs.Sums.Loops.{made_start}
use Rattle.graph6_packing.specs.Bits.{none_packed}
use Rattle.graph6_packing.proofs.pack_pairs.Goals as goal

pub loop-b-init : goal.loop-b-init
loop-b-init c = made_start _ (none_packed _)
