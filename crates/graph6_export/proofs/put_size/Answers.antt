use Rattle.graph6_export.specs.Parts.{short_size, long_size}
use Rattle.graph6_export.proofs.put_size.Goals as goal

pub returns-then-n-le62 : goal.returns-then-n-le62
returns-then-n-le62 c =
    rw (← (short_size c.if-n-le62.true)) c.put_text.ensures

pub returns : goal.returns
returns c =
    rw (← (long_size c.if-n-le62.false c.requires)) c.put_text-2.ensures
