use Rattle.std.proofs.Common.{sym, ap, ◌∙◌}
use Rattle.model.specs.declared.Layout.{Layout}
use Rattle.model.specs.declared.Origin.{Origin}
use Rattle.model.specs.Answers.{told_by}
use Rattle.model.specs.Charts.{as_read}
use Rattle.model.specs.Playing.{start_of}
use Rattle.calls_play.proofs.playing.start_of.Goals as goal

pub returns-in-Empty : goal.returns-in-Empty
unfolding start_of as_read told_by
returns-in-Empty c =
    let bytes = c.args.bytes.now in
    ap (λ (l : Layout). record { refusal = 0; layout = l }) c.empty.ensures
    ∙ ap (λ (o : Origin). start_of o bytes) (sym c.in-Empty.is)

pub returns-in-Chart : goal.returns-in-Chart
unfolding start_of
returns-in-Chart c =
    let bytes = c.args.bytes.now in
    c.read.ensures ∙ ap (λ (o : Origin). start_of o bytes) (sym c.in-Chart.is)

pub returns-in-Graph6 : goal.returns-in-Graph6
unfolding start_of
returns-in-Graph6 c =
    let bytes = c.args.bytes.now in
    c.import.ensures ∙ ap (λ (o : Origin). start_of o bytes) (sym c.in-Graph6.is)
