use Rattle.std.proofs.Common.{arith}
use Rattle.decimals.specs.Decimals.{spaced_length}
use Rattle.decimals.proofs.put_small.Goals as goal

-- a space and at most 3 digits
pub put_at_most-requires : goal.put_at_most-requires
put_at_most-requires c = spaced_length 2 (omega arith)
