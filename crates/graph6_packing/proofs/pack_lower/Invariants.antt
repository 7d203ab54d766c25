use Rattle.graph6_packing.specs.Bits.{LowerPacked}
use Rattle.graph6_packing.proofs.pack_lower.Given as goal

abbrev pub invariant-loop-a : goal.invariant-loop-a
invariant-loop-a l = LowerPacked l.adjacency l.b l.bytes l.a
