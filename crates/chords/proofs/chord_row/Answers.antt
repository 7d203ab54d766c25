use Rattle.std.proofs.Common.{refl}
use Rattle.laws.specs.Crossings.Masks.{vertex_at}
use Rattle.chords.specs.Chords.{row_start, row_next}
use Rattle.chords.proofs.chord_row.Goals as goal

pub loop-k-init : goal.loop-k-init
loop-k-init c = row_start c.requires.0 c.requires.1 c.told-chords

pub loop-k-preserved : goal.loop-k-preserved
unfolding vertex_at
loop-k-preserved c =
    let so_far = c.loop-k.invariant in
    row_next so_far c.loop-k-test.true refl refl c.requires.2 c.weight_at-start.ensures.is c.next_chord-chord.ensures
    (c.add_row.ensures so_far.passed_size)
