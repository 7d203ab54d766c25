use Rattle.std.proofs.Common.{ap, ◌∙◌}
use Rattle.model.specs.Answers.{Changed}
use Rattle.in_place.specs.Stores.{change_told}
use Rattle.in_place.proofs.calls.rl_move_after.Goals as goal

pub returns : goal.returns
returns c = (
  c.change.ensures.number ∙ change_told c.args.l.now c.move_after-answer.result ∙ ap (λ (a : Changed). a.refusal) c.move_after-answer.ensures,
  c.change.ensures.layout ∙ ap (λ (a : Changed). a.layout) c.move_after-answer.ensures,
)
