use Rattle.model.specs.Graph6.{pair_bits}
use Rattle.laws.specs.Sums.Loops.{MadeUpTo}
use Rattle.laws.specs.Graph6.Packing.{packed_in}
use Rattle.graph6_packing.proofs.pack_pairs.Given as goal

abbrev pub invariant-loop-b : goal.invariant-loop-b
invariant-loop-b l = MadeUpTo (λ k. packed_in 336 (pair_bits k l.adjacency)) l.b-end l.bytes l.b
