use Rattle.std.proofs.Common.{arith, ◌≡◌, List, ℕ, length, refl, ap, ◌∙◌}
use Rattle.model.specs.declared.Layout.{Layout}
use Rattle.model.specs.declared.Origin.{Origin}
use Rattle.model.specs.declared.Played.{Played}
use Rattle.model.specs.Answers.{number, told_by}
use Rattle.model.specs.Charts.{as_read}
use Rattle.model.specs.Playing.{start_of, played_calls, play_of, table_of}
use Rattle.laws.specs.Layouts.Refusals.{number_positive}
use Rattle.history.specs.Demand3.{Demand3}
use Rattle.calls_play.specs.PlayAnswers.{Answered, not_played, play_unstarted, play_short, play_done, play_claim}
use Rattle.calls_play.proofs.playing.play.Goals as goal

-- the clauses of the contract
told : {from : Origin} {chart numbers table : List ℕ} {r : Played} {after : List ℕ} → Answered from chart numbers table r after
    → (r ≡ play_of from chart numbers (length table))
    × ((after ≡ table_of from chart numbers table) × Demand3 (start_of from chart).layout (played_calls from chart numbers (length table)))
told {from} {chart} {numbers} {table} a = (a.returned, (a.table_is, play_claim from chart numbers (length table)))

pub returns-in-Err : goal.returns-in-Err
unfolding as_read told_by
returns-in-Err c =
    let s = c.args in
    let t =
    told
    (play_unstarted s.origin s.bytes.now s.calls.now s.answers.now (rw c.in-Err.is at c.start_of.ensures) (number_positive c.in-Err.refusal))
    in
    let nothing = c.not_played.ensures ∙ ap (not_played (number c.in-Err.refusal)) c.empty.ensures in
    record { returned = nothing ∙ t.0; table = t.1.0; claim = t.1.1 }

pub returns-then-answers-count : goal.returns-then-answers-count
unfolding as_read told_by number
returns-then-answers-count c =
    let s = c.args in
    let t =
    told
    (play_short s.origin s.bytes.now s.calls.now s.answers.now (rw c.in-Ok.is at c.start_of.ensures) refl
    (omega (arith, c.count_calls-count.ensures, c.if-answers-count.true)))
    in
    record { returned = c.not_played-then-answers-count.ensures ∙ t.0; table = t.1.0; claim = t.1.1 }

pub returns : goal.returns
unfolding as_read told_by
returns c =
    let ended = c.play_all.ensures in
    let s = c.args in
    let t =
    told
    (play_done s.origin s.bytes.now s.calls.now s.answers.now (rw c.in-Ok.is at c.start_of.ensures) refl c.count_calls-count.ensures
    (omega (arith, c.if-answers-count.false)) ended.value ended.answers_after)
    in
    record { returned = t.0; table = t.1.0; claim = t.1.1 }
