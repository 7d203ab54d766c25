use Rattle.std.proofs.Common.{ap, ◌∙◌}
use Rattle.model.specs.Answers.{Changed}
use Rattle.in_place.specs.Stores.{change_told}
use Rattle.in_place.proofs.calls.rl_add_edge.Goals as goal

pub returns : goal.returns
returns c = (
  c.change.ensures.number ∙ change_told c.args.l.now c.add_edge-answer.result ∙ ap (λ (a : Changed). a.refusal) c.add_edge-answer.ensures,
  c.change.ensures.layout ∙ ap (λ (a : Changed). a.layout) c.add_edge-answer.ensures,
)
