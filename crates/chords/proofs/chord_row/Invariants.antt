use Rattle.chords.specs.Chords.{ChordsTo}
use Rattle.chords.proofs.chord_row.Given as goal

abbrev pub invariant-loop-k : goal.invariant-loop-k
invariant-loop-k l = ChordsTo l.n l.order l.weights l.i l.initial.chords l.chords l.passed l.outgoing l.k
