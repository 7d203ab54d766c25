use Rattle.std.proofs.Common.{refl, arith}
use Rattle.laws.specs.Sums.Loops.{made_start, made_next, made_end}
use Rattle.graph6_pairs.specs.Joining.{none_joined}
use Rattle.graph6_pairs.proofs.join_pairs.Goals as goal

pub loop-b-init : goal.loop-b-init
loop-b-init c = made_start _ (none_joined _)

pub join_lower-requires : goal.join_lower-requires
join_lower-requires c = (omega arith, c.loop-b.invariant.made)

pub loop-b-preserved : goal.loop-b-preserved
loop-b-preserved c = made_next c.loop-b.invariant (omega arith) c.join_lower.ensures

pub returns : goal.returns
returns c = made_end c.loop-b.invariant (omega arith) refl
