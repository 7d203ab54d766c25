use Rattle.std.proofs.Common.{le-ltb}
use Rattle.laws.specs.Sums.Bits.{bit_beyond}
use Rattle.words.proofs.is_set.Goals as goal

pub returns-else-i-lt64 : goal.returns-else-i-lt64
returns-else-i-lt64 c = rw (le-ltb _ _ c.if-i-lt64.false, bit_beyond 64 c.args.word c.args.i c.ranges.word.fits c.if-i-lt64.false)
