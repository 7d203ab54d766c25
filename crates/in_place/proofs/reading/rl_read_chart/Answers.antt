use Rattle.std.proofs.Common.{ap, ◌∙◌}
use Rattle.model.specs.Answers.{LayoutRead}
use Rattle.in_place.specs.Stores.{load_told}
use Rattle.in_place.proofs.reading.rl_read_chart.Goals as goal

pub returns : goal.returns
returns c = (
  c.load.ensures.number ∙ load_told c.read.result ∙ ap (λ (a : LayoutRead). a.refusal) c.read.ensures,
  c.load.ensures.layout ∙ ap (λ (a : LayoutRead). a.layout) c.read.ensures,
)
