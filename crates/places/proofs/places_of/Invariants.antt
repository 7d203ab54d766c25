use Rattle.places.specs.AllPlaces.{PlacesUpTo}
use Rattle.places.proofs.places_of.Given as goal

abbrev pub invariant-loop-p : goal.invariant-loop-p
invariant-loop-p l = PlacesUpTo l.n l.order l.places l.p
