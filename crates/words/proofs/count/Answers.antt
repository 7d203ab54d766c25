use Rattle.laws.specs.Sums.Bits.{masked_ones, ones_masked}
use Rattle.words.proofs.count.Goals as goal

pub returns : goal.returns
unfolding masked_ones
returns c = ones_masked 64 c.args.word c.args.mask c.ranges.word.fits
