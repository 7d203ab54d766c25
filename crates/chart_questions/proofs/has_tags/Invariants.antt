use Rattle.chart_questions.specs.Fields.{TagsUpTo}
use Rattle.chart_questions.proofs.has_tags.Given as goal

abbrev pub invariant-loop-tag : goal.invariant-loop-tag
invariant-loop-tag l = TagsUpTo l.bytes l.tags l.fields.rest.now l.tag-index
