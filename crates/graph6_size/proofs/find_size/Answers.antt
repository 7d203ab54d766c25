use Rattle.std.proofs.Common.{arith, ◌∙◌}
use Rattle.model.specs.Answers.{number}
use Rattle.model.specs.Charts.{size_found}
use Rattle.graph6_size.specs.Sizes.{no_bytes, one_byte, cut_short, four_bytes}
use Rattle.graph6_size.proofs.find_size.Goals as goal

pub returns-in_default : goal.returns-in_default
unfolding size_found number
returns-in_default c = no_bytes _ (omega arith)

pub returns-then-first-ne126 : goal.returns-then-first-ne126
returns-then-first-ne126 c = c.short_size.ensures ∙ one_byte _ (omega arith) c.if-first-ne126.true

pub returns-in_default-bytes : goal.returns-in_default-bytes
unfolding size_found number
returns-in_default-bytes c = cut_short _ c.if-first-ne126.false (omega arith)

pub returns : goal.returns
returns c = c.long_size.ensures ∙ four_bytes _ c.if-first-ne126.false (omega arith)
