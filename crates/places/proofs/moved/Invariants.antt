use lib.ListN.{get_or}
use Rattle.laws.specs.Sums.Loops.{FilledUpTo}
use Rattle.laws.specs.Orders.Moves.{moved_from}
use Rattle.places.proofs.moved.Given as goal

abbrev pub invariant-loop-i : goal.invariant-loop-i
invariant-loop-i l = FilledUpTo (λ k. get_or l.order (moved_from l.p l.q k) 0) 64 l.entry-items l.i
