use Rattle.model.specs.Reading.{shown}
use Rattle.laws.specs.Layouts.FirstCrossing.{found}
use Rattle.places.specs.AllPlaces.{PlacesOf}
use Rattle.first_crossing.specs.Search.{firsts_end, firsts_next, seconds_next, pair_found}
use Rattle.first_crossing.proofs.crossing.first_pair.Goals as goal
use Rattle.first_crossing.proofs.crossing.first_pair.Goals.{After-places_of-places}

-- the places are those of the order
placed : (c : After-places_of-places)
    → let s = c.args in PlacesOf s.n s.order.now c.places_of-places.result
placed c = let given = c.requires in c.places_of-places.ensures given.small given.permutation

pub loop-second-preserved : goal.loop-second-preserved
loop-second-preserved c =
    seconds_next c.requires (placed (goal.at.loop-second-preserved c).After-places_of-places) c.loop-first-test.true c.loop-second-test.true
    c.edge_at-e.ensures c.edge_at-f.ensures c.cross.ensures c.loop-second.invariant c.if-cross.false

pub loop-first-preserved : goal.loop-first-preserved
loop-first-preserved c =
    firsts_next c.loop-first.invariant c.loop-second.invariant c.loop-first-test.true c.loop-second-test.false

pub returns-then-cross : goal.returns-then-cross
unfolding shown found
returns-then-cross c =
    rw
    (pair_found c.requires (placed (goal.at.returns-then-cross c).After-places_of-places) c.loop-first-test.true c.loop-second-test.true
    c.edge_at-e.ensures c.edge_at-f.ensures c.cross.ensures c.loop-first.invariant c.loop-second.invariant c.if-cross.true)

pub returns-after-loop-first : goal.returns-after-loop-first
unfolding shown found
returns-after-loop-first c = rw (firsts_end c.loop-first.invariant c.loop-first-test.false)
