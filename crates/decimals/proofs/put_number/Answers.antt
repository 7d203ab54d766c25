use Rattle.std.proofs.Common.{lt_trans, lit<}
use Rattle.decimals.specs.Decimals.{spaced_length}
use Rattle.decimals.proofs.put_number.Goals as goal

-- a space and at most 20 digits
pub put_at_most-requires : goal.put_at_most-requires
put_at_most-requires c = spaced_length 19 (lt_trans c.ranges.x.fits (lit< tt))
