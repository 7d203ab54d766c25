use mathlib.Core.Path.{◌≡◌, ◌∙◌}
use lib.ListN.{take}
use Rattle.model.specs.Listing.{decimal}
use Rattle.decimals.specs.Decimals.{digits_decimal}
use Rattle.decimals.proofs.put_decimal.Goals as goal
use Rattle.decimals.proofs.put_decimal.Goals.{After-decimal-count}

-- the digits made
made : (c : After-decimal-count) → take c.decimal-count.result c.decimal-count.new.out ≡ decimal c.args.x
made c = c.decimal-count.ensures.digits ∙ digits_decimal _ _ c.decimal-count.ensures.len

pub returns : goal.returns
returns c =
    let done = rw (made (goal.at.returns c).After-decimal-count) at c.put_text.ensures in
    done.fits c.requires
