use Rattle.std.proofs.Common.{◌%◌}
use Rattle.append_ends.specs.Placed.{as_vertices}
use Rattle.append_ends.specs.Passes.{MetUpTo}
use Rattle.append_ends.proofs.OpenEdges.ends_of.Given as goal

abbrev pub invariant-loop-place : goal.invariant-loop-place
invariant-loop-place l = MetUpTo l.self.weights.now l.self.sums (l.v % 64) (as_vertices l.placed) l.met l.place-index
