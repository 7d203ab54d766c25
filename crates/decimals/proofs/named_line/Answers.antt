use native.Mathlib.Omega.{arith}
use Rattle.model.specs.Lists.{upto}
use Rattle.model.specs.Listing.{text}
use Rattle.text.specs.Room.{put_behind}
use Rattle.decimals.proofs.named_line.Goals as goal

pub returns : goal.returns
unfolding text upto
returns c =
    let room = c.requires in
    let end1 = c.put_text-number.ensures.bound in
    let end2 = c.put_number-end.ensures.bound in
    let named = c.put_text-number.ensures.fits (omega (arith, room)) in
    let numbered = put_behind named c.put_number-end.ensures (omega (arith, room, end1)) in (
      put_behind numbered c.put_text.ensures (omega (arith, room, end1, end2)),
      omega (arith, end1, end2, c.put_text.ensures.bound),
    )
