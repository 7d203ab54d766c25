use native.Mathlib.Omega.{arith}
use mathlib.Core.Path.{refl}
use Rattle.edge_crossings.specs.Numbers.{each_fits, numbers_right}
use Rattle.edge_crossings.proofs.put_numbers.Goals as goal

pub put_each-requires : goal.put_each-requires
put_each-requires c =
    let given = c.requires in
    let listed = each_fits given.0 refl c.put_edges-end.ensures given.1 in
    (omega (arith, listed.0), omega (arith, listed.1))

pub returns : goal.returns
returns c =
    let drawable = c.requires.0 in
    let drawn = drawable.weighted in
    numbers_right drawable refl c.put_edges-end.ensures (c.chord_crossings-chords.ensures drawn)
    (c.places_of-places.ensures drawn.small drawn.permutation) c.put_each.ensures
