use mathlib.Core.Path.{◌∙◌}
use Rattle.calls_step.specs.Limits.{limits_above}
use Rattle.calls_step.proofs.steps.converge_within.Goals as goal

pub returns-then-limit-gt1000 : goal.returns-then-limit-gt1000
returns-then-limit-gt1000 c = c.converge.ensures ∙ limits_above c.args.l c.if-limit-gt1000.true
