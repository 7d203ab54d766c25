use native.Mathlib.Omega.{arith}
use Rattle.model.specs.Lists.{upto}
use Rattle.model.specs.Listing.{text, spaced}
use Rattle.text.specs.Parts.{behind}
use Rattle.decimals.proofs.put_spaced.Goals as goal

pub put_decimal-requires : goal.put_decimal-requires
unfolding spaced text upto
put_decimal-requires c = omega arith

pub returns : goal.returns
unfolding spaced text upto
returns c =
    behind (c.put_text-digits.ensures.fits (omega arith)) c.put_decimal.ensures (omega arith)
