use Rattle.std.proofs.Common.{ap, ◌∙◌}
use Rattle.model.specs.Answers.{LayoutRead}
use Rattle.in_place.specs.Stores.{load_told}
use Rattle.in_place.proofs.graph6_calls.rl_import_graph6.Goals as goal

pub returns : goal.returns
returns c = (
  c.load.ensures.number ∙ load_told c.import.result ∙ ap (λ (a : LayoutRead). a.refusal) c.import.ensures,
  c.load.ensures.layout ∙ ap (λ (a : LayoutRead). a.layout) c.import.ensures,
)
