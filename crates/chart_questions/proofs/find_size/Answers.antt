use native.Mathlib.Omega.{arith}
use Rattle.chart_questions.specs.Fields.{size_long, size_large, size_right}
use Rattle.chart_questions.proofs.find_size.Goals as goal

pub returns-then-body-ne1 : goal.returns-then-body-ne1
returns-then-body-ne1 c = size_long _ c.if-body-ne1.true

pub overflow_cast-n : goal.overflow_cast-n
overflow_cast-n c = omega (arith, c.type_inv.body 0)

pub returns-then-n-gt64 : goal.returns-then-n-gt64
returns-then-n-gt64 c = size_large _ c.if-body-ne1.false c.if-n-gt64.true

pub returns-else-n-gt64 : goal.returns-else-n-gt64
returns-else-n-gt64 c = size_right _ c.if-body-ne1.false c.if-n-gt64.false
