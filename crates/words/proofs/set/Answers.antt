use Rattle.std.proofs.Common.{lt-ltb}
use Rattle.laws.specs.Sums.Bits.{shifted_one, or_power}
use Rattle.words.proofs.set.Goals as goal

pub returns-then-i-lt64 : goal.returns-then-i-lt64
returns-then-i-lt64 c = rw (shifted_one c.args.i c.if-i-lt64.true, lt-ltb _ _ c.if-i-lt64.true) (or_power c.args.word c.args.i)
