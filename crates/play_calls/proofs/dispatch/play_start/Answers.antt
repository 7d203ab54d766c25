use borrow.Author.Rules.{rules}
use mathlib.Core.Path.{◌∙◌}
use Rattle.play_calls.proofs.Lines.{counted}
use Rattle.play_calls.proofs.dispatch.play_start.Goals as goal

pub returns-in_default : goal.returns-in_default
returns-in_default c = counted _ _ c.end.ensures (c.end.auto.line ∙ search rules)

pub returns-then-number-eq28 : goal.returns-then-number-eq28
returns-then-number-eq28 c = counted _ _ c.import_graph.ensures (c.import_graph.auto.line ∙ search rules)

pub returns : goal.returns
returns c = counted _ _ c.read_chart.ensures (c.read_chart.auto.line ∙ search rules)
