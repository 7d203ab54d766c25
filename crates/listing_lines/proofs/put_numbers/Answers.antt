use Rattle.std.proofs.Common.{arith}
use Rattle.text.specs.Room.{has_room_lem}
use Rattle.listing_lines.proofs.put_numbers.Goals as goal

pub five_lines-requires : goal.five_lines-requires
five_lines-requires c = omega (arith, has_room_lem c.lacks.ensures c.if-lacks.false)
