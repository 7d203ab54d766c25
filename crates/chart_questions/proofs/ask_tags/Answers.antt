use mathlib.Core.Path.{◌≡◌, sym, ◌∙◌}
use mathlib.Core.Bool.{false}
use Rattle.model.specs.Charts.{tags_of, same_list, chart_tags}
use Rattle.chart_questions.specs.Fields.{tags_right, tags_weighted, tags_wrong}
use Rattle.chart_questions.proofs.ask_tags.Goals as goal
use Rattle.chart_questions.proofs.ask_tags.Goals.{Else-has_tags}

three : (c : Else-has_tags) → same_list (tags_of c.args.bytes.now) chart_tags ≡ false
three c = sym c.has_tags.ensures ∙ c.if-has_tags.false

pub returns-then-has_tags : goal.returns-then-has_tags
returns-then-has_tags c = tags_right _ (sym c.has_tags.ensures ∙ c.if-has_tags.true)

pub returns-then-has_tags-2 : goal.returns-then-has_tags-2
returns-then-has_tags-2 c = tags_weighted _ (three (goal.at.returns-then-has_tags-2 c).Else-has_tags) (sym c.has_tags-2.ensures ∙ c.if-has_tags-2.true)

pub returns : goal.returns
returns c = tags_wrong _ (three (goal.at.returns c).Else-has_tags) (sym c.has_tags-2.ensures ∙ c.if-has_tags-2.false)
