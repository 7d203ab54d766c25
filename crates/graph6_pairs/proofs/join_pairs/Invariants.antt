use Rattle.std.specs.Prelude.{min}
use Rattle.model.specs.Graph6.{graph6_edges}
use Rattle.laws.specs.Sums.Loops.{MadeUpTo}
use Rattle.laws.specs.Charts.Words.{adjacency_of}
use Rattle.graph6_pairs.proofs.join_pairs.Given as goal

abbrev pub invariant-loop-b : goal.invariant-loop-b
invariant-loop-b l = MadeUpTo (λ k. adjacency_of (graph6_edges k l.bytes)) (min l.n 64) l.adjacency l.b
