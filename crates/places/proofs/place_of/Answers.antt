use Rattle.std.proofs.Common.{◌≡◌, ◌<◌, get_or, length, rules}
use Rattle.std.specs.Prelude.{MatchOption}
use Rattle.places.specs.MovedPlaces.{NotBefore, place_at}
use Rattle.places.proofs.place_of.Goals as goal

pub returns : goal.returns
returns c =
    let v = c.args.v in
    let xs = c.args.order.now in
    let told : MatchOption c.position.result (NotBefore v xs (length xs)) (λ i. NotBefore v xs i × (i < length xs) × (get_or xs i 0 ≡ v)) = search rules in
    place_at v xs c.position.result told c.unwrap_or.ensures
