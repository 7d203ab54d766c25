use Rattle.calls_play.specs.PlayLoops.{PlayedUpTo}
use Rattle.calls_play.proofs.playing.play_all.Given as goal

abbrev pub invariant-loop-i : goal.invariant-loop-i
invariant-loop-i l = PlayedUpTo l.initial.layout l.calls l.initial.answers l.i l.layout l.answers
