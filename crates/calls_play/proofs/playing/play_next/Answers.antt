use mathlib.Core.Path.{sym, ◌∙◌}
use Rattle.calls_play.specs.PlayLoops.{there_played, there_ended}
use Rattle.calls_play.proofs.playing.play_next.Goals as goal

pub returns-in_default : goal.returns-in_default
returns-in_default c =
    let s = c.args in
    let t = there_ended s.calls.now s.i s.l s.answers.now (sym c.call_at.ensures ∙ c.in_default.is) in
    record { value = t.0; answers_after = t.1 }

pub returns : goal.returns
returns c =
    let s = c.args in
    let t = there_played s.calls.now s.i s.l s.answers.now (sym c.call_at.ensures ∙ c.in-Some.is) c.step-answer.ensures c.requires c.put_answer.ensures in
    record { value = t.0; answers_after = t.1 }
