use Rattle.chords.specs.Chords.{rows_start}
use Rattle.chords.proofs.chord_crossings.Goals as goal

pub loop-i-init : goal.loop-i-init
loop-i-init c = rows_start c.if-n-gt64.false
