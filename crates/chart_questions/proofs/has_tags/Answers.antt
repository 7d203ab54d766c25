use Rattle.std.proofs.Common.{arith}
use Rattle.chart_questions.specs.Fields.{tags_start, tags_next, tag_missing, tag_wrong, tags_last}
use Rattle.chart_questions.proofs.has_tags.Goals as goal

pub loop-tag-init : goal.loop-tag-init
loop-tag-init c = tags_start

pub returns-in_default : goal.returns-in_default
returns-in_default c = tag_missing c.loop-tag.invariant c.in_default.ensures.steps.0 c.loop-tag-test.true

pub returns-then-field-tag : goal.returns-then-field-tag
returns-then-field-tag c = tag_wrong c.loop-tag.invariant _ _ c.in-Some.ensures.steps.0 c.loop-tag-test.true (λ e. omega (arith, c.if-field-tag.true))

pub loop-tag-preserved : goal.loop-tag-preserved
loop-tag-preserved c = tags_next c.loop-tag.invariant _ _ c.in-Some.ensures.steps.0 c.loop-tag-test.true c.if-field-tag.false

pub returns : goal.returns
returns c =
    tags_last c.loop-tag.fields c.loop-tag.invariant c.loop-tag-test.false c.next-2.result c.next-2.new.self c.next-2.ensures.steps
    c.is_none.result c.is_none.ensures
