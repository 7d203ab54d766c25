use native.Mathlib.Omega.{arith}
use Rattle.model.specs.Lists.{upto}
use Rattle.model.specs.Listing.{text, line}
use Rattle.text.specs.Room.{put_behind}
use Rattle.listing_lines.proofs.order_line.Goals as goal

pub returns : goal.returns
unfolding line text upto
returns c =
    let room = c.requires in
    let end1 = c.put_text-places.ensures.bound in
    let end2 = c.put_bytes-end.ensures.bound in
    let end3 = c.put_text.ensures.bound in
    let named = c.put_text-places.ensures.fits (omega (arith, room)) in
    let listed = put_behind named c.put_bytes-end.ensures (omega (arith, room, end1)) in
    (put_behind listed c.put_text.ensures (omega (arith, room, end1, end2)), omega (arith, end1, end2, end3))
