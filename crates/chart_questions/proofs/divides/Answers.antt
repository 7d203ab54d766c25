use Rattle.std.proofs.Common.{ap, ◌∙◌, length, eqb}
use Rattle.chart_questions.specs.declared.fields.Fields.{Fields}
use Rattle.chart_questions.specs.Fields.{divided_next, divided_end}
use Rattle.chart_questions.proofs.divides.Goals as goal

pub loop-preserved : goal.loop-preserved
loop-preserved c = divided_next c.loop.invariant _ _ c.in-Some.ensures.steps.0

pub returns : goal.returns
returns c =
    c.is_empty.ensures
    ∙ ap (λ (x : Fields). eqb (length x.rest.now) 0) c.in_default.ensures.steps.1
    ∙ divided_end c.loop.invariant c.in_default.ensures.steps.0
