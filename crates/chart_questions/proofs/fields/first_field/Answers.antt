use Rattle.std.proofs.Common.{arith}
use Rattle.model.specs.Charts.{body_length}
use Rattle.chart_questions.specs.Fields.{answer_field, answer_short, answer_cut}
use Rattle.chart_questions.proofs.fields.first_field.Goals as goal

pub returns-in_default : goal.returns-in_default
returns-in_default c = answer_short _ (omega arith)

pub returns-then-length-bytes : goal.returns-then-length-bytes
unfolding body_length
returns-then-length-bytes c = answer_field _ (omega arith) c.if-length-bytes.true

pub returns-else-length-bytes : goal.returns-else-length-bytes
unfolding body_length
returns-else-length-bytes c = answer_cut _ (omega arith) c.if-length-bytes.false
