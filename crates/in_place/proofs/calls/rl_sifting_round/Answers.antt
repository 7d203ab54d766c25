use Rattle.std.proofs.Common.{ap, ◌∙◌}
use Rattle.model.specs.Answers.{Rounded}
use Rattle.model.specs.Reports.{round_report, as_round_report}
use Rattle.in_place.specs.Stores.{round_told}
use Rattle.in_place.proofs.calls.rl_sifting_round.Goals as goal

pub returns : goal.returns
returns c =
    let t = round_told c.args.l.now c.sifting_round-answer.result in (
      c.from.ensures ∙ ap as_round_report c.store.ensures.handed_on ∙ t.0 ∙ ap round_report c.sifting_round-answer.ensures,
      c.store.ensures.layout ∙ t.1 ∙ ap (λ (a : Rounded). a.layout) c.sifting_round-answer.ensures,
    )
