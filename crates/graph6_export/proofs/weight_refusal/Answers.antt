use Rattle.model.specs.Answers.{refusal_number, number}
use Rattle.graph6_export.specs.Weights.{code_of}
use Rattle.graph6_export.proofs.weight_refusal.Goals as goal

pub returns-then-all_unit : goal.returns-then-all_unit
unfolding refusal_number
returns-then-all_unit c = code_of _ c.all_unit.ensures c.if-all_unit.true

pub returns-else-all_unit : goal.returns-else-all_unit
unfolding refusal_number number
returns-else-all_unit c = code_of _ c.all_unit.ensures c.if-all_unit.false
