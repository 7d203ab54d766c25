use borrow.Author.Rules.{rules}
use mathlib.Core.Path.{◌∙◌}
use Rattle.play_calls.proofs.Lines.{counted}
use Rattle.play_calls.proofs.dispatch.play.Goals as goal

pub returns-then-record-lt32 : goal.returns-then-record-lt32
returns-then-record-lt32 c = counted _ _ c.end.ensures (c.end.auto.line ∙ search rules)

pub returns : goal.returns
returns c = counted _ _ c.play_op.ensures (c.play_op.auto.line ∙ search rules)
