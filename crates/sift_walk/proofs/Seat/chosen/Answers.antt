use native.Mathlib.Omega.{arith}
use mathlib.Core.Path.{◌∙◌}
use Rattle.sift_walk.specs.Finding.{moved_places, chosen_moved, chosen_kept}
use Rattle.sift_walk.proofs.Seat.chosen.Goals as goal

pub returns-then-least-lt-START : goal.returns-then-least-lt-START
unfolding moved_places
returns-then-least-lt-START c = chosen_moved _ _ _ _ (omega (arith, c.if-least-lt-START.true)) c.turned.ensures c.moved.ensures

pub returns-else-least-lt-START : goal.returns-else-least-lt-START
returns-else-least-lt-START c = c.staying.ensures ∙ chosen_kept _ _ _ _ (omega (arith, c.if-least-lt-START.false))
