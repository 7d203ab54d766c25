use Rattle.std.proofs.Common.{ap, ◌∙◌}
use Rattle.model.specs.Answers.{Added}
use Rattle.model.specs.Reports.{add_report, as_add_report}
use Rattle.in_place.specs.Stores.{add_told}
use Rattle.in_place.proofs.calls.rl_add_vertex.Goals as goal

pub returns : goal.returns
returns c =
    let t = add_told c.args.l.now c.add_vertex-answer.result in (
      c.from.ensures ∙ ap as_add_report c.store.ensures.handed_on ∙ t.0 ∙ ap add_report c.add_vertex-answer.ensures,
      c.store.ensures.layout ∙ t.1 ∙ ap (λ (a : Added). a.layout) c.add_vertex-answer.ensures,
    )
