use Rattle.std.proofs.Common.{rules, ◌≡◌, Err, refl, sym}
use Rattle.model.specs.Answers.{refusal_number, told_by, as_changed}
use Rattle.model.specs.Edits.{unlink_of}
use Rattle.laws.specs.Layouts.Refusals.{number_told, number_positive}
use Rattle.edges.specs.EdgeCalls.{unlinking, Places, edge_refused, edge_accepted}
use Rattle.edges.proofs.remove_edge.Goals as goal
use Rattle.edges.proofs.remove_edge.Goals.{Start}

sized : (s : Start) → let a = s.args in Places unlinking a.l a.a a.b
sized s = record { words = search rules; table = search rules }

pub returns-in_err-check_remove : goal.returns-in_err-check_remove
unfolding unlink_of as_changed told_by
returns-in_err-check_remove c =
    let s = c.args in
    let back : c.from_residual.result ≡ Err c.in_err-check_remove.field-0.0 = search rules in
    rw back (edge_refused unlinking s.l s.a s.b (number_told c.check_remove.ensures c.in_err-check_remove.was) (number_positive _))

pub returns : goal.returns
unfolding unlink_of as_changed told_by refusal_number
returns c =
    let s = c.args in
    edge_accepted unlinking s.l s.a s.b c.in_ok-check_remove.ensures refl
    c.part.ensures c.set_both.ensures (sized (goal.at.returns c).Start) c.recounted.ensures
