use Rattle.std.proofs.Common.{ap, ◌∙◌}
use Rattle.model.specs.Answers.{Appended}
use Rattle.model.specs.Reports.{append_report, as_append_report}
use Rattle.in_place.specs.Stores.{append_told}
use Rattle.in_place.proofs.calls.rl_greedy_append.Goals as goal

pub returns : goal.returns
returns c =
    let t = append_told c.args.l.now c.greedy_append-answer.result in (
      c.from.ensures ∙ ap as_append_report c.store.ensures.handed_on ∙ t.0 ∙ ap append_report c.greedy_append-answer.ensures,
      c.store.ensures.layout ∙ t.1 ∙ ap (λ (a : Appended). a.layout) c.greedy_append-answer.ensures,
    )
