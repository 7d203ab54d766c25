use Prim.Native.Nat.{◌≤◌}
use Rattle.std.proofs.Common.{◌≡◌, length, arith, rules, ap, ◌∙◌, length-take-le}
use Rattle.laws.specs.Layouts.Validity.{sound}
use Rattle.text.specs.Room.{put_behind}
use Rattle.edge_list.specs.Rows.{listed_few}
use Rattle.listing.specs.Text.{listing_written}
use Rattle.listing.proofs.Results.{settle_ok, settled_result}
use Rattle.listing.proofs.listings.list_layout.Goals as goal
use Rattle.listing.proofs.listings.list_layout.Goals.{Start}

few : (c : Start) → c.args.l.n ≤ 64
few c = (sound c.args.l c.requires.0).small

pub unwrap-requires : goal.unwrap-requires
unwrap-requires c = settle_ok c.args.l c.requires.0 _ c.converge.ensures

-- the order that settling gives has 64 places
pub shared_ref_as_front-put_order_line : goal.shared_ref_as_front-put_order_line
shared_ref_as_front-put_order_line c =
    let size : length c.unwrap.result.0.order ≡ 64 = search rules in
    omega (arith, size, few (goal.at.shared_ref_as_front-put_order_line c).Start)

pub returns : goal.returns
returns c =
    let room = c.requires.2 in
    let small = few (goal.at.returns c).Start in
    let held = c.put_numbers-state.ensures in
    let told = c.put_settled-order_line.ensures in
    let size : length c.unwrap.result.0.order ≡ 64 = search rules in
    let order = length-take-le c.args.l.n c.unwrap.result.0.order (omega (arith, size, small)) in
    let links = c.edge_count.ensures ∙ ap length (listed_few _ _ small) in
    let stated = put_behind (held.fits (omega (arith, room))) told (omega (arith, room, held.bound)) in
    listing_written c.args.l c.requires.0 c.requires.1 (settled_result c.args.l c.converge.ensures c.unwrap.ensures) links
    (put_behind stated c.put_order_line.ensures (omega (arith, room, order, small, held.bound, told.bound)))
