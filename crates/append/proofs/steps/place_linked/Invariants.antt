use Rattle.std.proofs.Common.{◌-◌, ◌≡◌}
use Rattle.append.specs.Steps.{PlacedUpTo}
use Rattle.append.proofs.steps.place_linked.Given as goal

-- the open edges are those of the table that was lent
abbrev pub invariant-loop-v : goal.invariant-loop-v
invariant-loop-v l = (l.edges.weights.now ≡ l.weights) × PlacedUpTo l.n l.adjacency l.weights l.s l.so_far l.edges.sums

abbrev pub decreases-loop-v : goal.decreases-loop-v
decreases-loop-v l = l.n - l.so_far.line.size
