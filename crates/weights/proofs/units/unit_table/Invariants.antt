use Prim.Native.Nat.{◌/◌, ◌%◌}
use lib.ListN.{get_or}
use Rattle.model.specs.Crossings.{bit}
use Rattle.laws.specs.Sums.Loops.{FilledUpTo}
use Rattle.weights.proofs.units.unit_table.Given as goal

abbrev pub invariant-loop-i : goal.invariant-loop-i
invariant-loop-i l = FilledUpTo (λ k. bit (get_or l.adjacency (k / 64) 0) (k % 64)) 4096 l.weight-items l.i
