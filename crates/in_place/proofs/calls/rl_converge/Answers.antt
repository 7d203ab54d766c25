use Rattle.std.proofs.Common.{ap, ◌∙◌}
use Rattle.model.specs.Answers.{Converged}
use Rattle.model.specs.Reports.{converge_report, as_converge_report}
use Rattle.in_place.specs.Stores.{converge_told}
use Rattle.in_place.proofs.calls.rl_converge.Goals as goal

pub returns : goal.returns
returns c =
    let t = converge_told c.args.l.now c.converge-answer.result in (
      c.from.ensures ∙ ap as_converge_report c.store.ensures.handed_on ∙ t.0 ∙ ap converge_report c.converge-answer.ensures,
      c.store.ensures.layout ∙ t.1 ∙ ap (λ (a : Converged). a.layout) c.converge-answer.ensures,
    )
