use Rattle.std.proofs.Common.{ap, ◌∙◌}
use Rattle.model.specs.Answers.{Sifted}
use Rattle.model.specs.Reports.{sift_report, as_sift_report}
use Rattle.in_place.specs.Stores.{sift_told}
use Rattle.in_place.proofs.calls.rl_sift.Goals as goal

pub returns : goal.returns
returns c =
    let t = sift_told c.args.l.now c.sift-answer.result in (
      c.from.ensures ∙ ap as_sift_report c.store.ensures.handed_on ∙ t.0 ∙ ap sift_report c.sift-answer.ensures,
      c.store.ensures.layout ∙ t.1 ∙ ap (λ (a : Sifted). a.layout) c.sift-answer.ensures,
    )
