use native.Mathlib.Omega.{arith}
use Rattle.model.specs.Lists.{upto}
use Rattle.model.specs.Listing.{text, line}
use Rattle.text.specs.Room.{put_behind}
use Rattle.listing_lines.proofs.five_lines.Goals as goal

pub returns : goal.returns
unfolding line text upto
returns c =
    let room = c.requires in
    let end1 = c.put_line-links.ensures.bound in
    let end2 = c.put_line-before.ensures.bound in
    let end3 = c.put_line-after.ensures.bound in
    let end4 = c.put_line-rounds.ensures.bound in
    let one = c.put_line-links.ensures.fits (omega (arith, room)) in
    let two = put_behind one c.put_line-before.ensures (omega (arith, room, end1)) in
    let three = put_behind two c.put_line-after.ensures (omega (arith, room, end1, end2)) in
    let four = put_behind three c.put_line-rounds.ensures (omega (arith, room, end1, end2, end3)) in (
      put_behind four c.put_line.ensures (omega (arith, room, end1, end2, end3, end4)),
      omega (arith, end1, end2, end3, end4, c.put_line.ensures.bound),
    )
