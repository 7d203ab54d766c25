use Rattle.chart_questions.specs.Fields.{DividedUpTo}
use Rattle.chart_questions.proofs.divides.Given as goal

abbrev pub invariant-loop : goal.invariant-loop
invariant-loop l = DividedUpTo l.bytes l.fields.rest.now
