use Rattle.std.proofs.Common.{◌≡◌, ℕ, ◌-◌, ◌^◌, arith, sym}
use Rattle.std.specs.Int.Bits.{bit_and}
use Rattle.model.specs.Edits.{without_bit}
use Rattle.laws.specs.Sums.Bits.{shifted_one, sub_power, clear_beyond}
use Rattle.words.proofs.clear.Goals as goal

-- the mask is the bit at i alone
cleared : (word i mask : ℕ) → mask ≡ 2 ^ i → word - bit_and word mask ≡ without_bit word i
cleared word i mask e = rw e (sub_power word i)

pub returns-then-i-lt64 : goal.returns-then-i-lt64
returns-then-i-lt64 c = cleared _ _ _ (omega (arith, shifted_one c.args.i c.if-i-lt64.true))

pub returns-else-i-lt64 : goal.returns-else-i-lt64
returns-else-i-lt64 c = sym (clear_beyond 64 c.args.word c.args.i c.ranges.word.fits c.if-i-lt64.false)
