use mathlib.Core.Path.{sym, ◌∙◌}
use Rattle.chart_questions.specs.Fields.{division_long, division_cut, division_whole}
use Rattle.chart_questions.proofs.ask_fields.Goals as goal

pub returns-then-bytes-gt8192 : goal.returns-then-bytes-gt8192
returns-then-bytes-gt8192 c = division_long _ c.if-bytes-gt8192.true

pub returns-then-divides : goal.returns-then-divides
returns-then-divides c = division_whole _ c.if-bytes-gt8192.false (sym c.divides.ensures ∙ c.if-divides.true)

pub returns-else-divides : goal.returns-else-divides
returns-else-divides c = division_cut _ c.if-bytes-gt8192.false (sym c.divides.ensures ∙ c.if-divides.false)
