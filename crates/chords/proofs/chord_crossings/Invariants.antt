use Rattle.chords.specs.Chords.{ChordsUpTo}
use Rattle.chords.proofs.chord_crossings.Given as goal

abbrev pub invariant-loop-i : goal.invariant-loop-i
invariant-loop-i l = ChordsUpTo l.n l.order l.weights l.chords l.i
