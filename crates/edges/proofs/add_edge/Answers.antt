use Rattle.std.proofs.Common.{rules, ◌≡◌, Err, refl, sym}
use Rattle.model.specs.Answers.{refusal_number, told_by, as_changed}
use Rattle.model.specs.Edits.{link_of}
use Rattle.laws.specs.Layouts.Refusals.{number_told, number_positive}
use Rattle.edges.specs.EdgeCalls.{linking, Places, edge_refused, edge_accepted}
use Rattle.edges.proofs.add_edge.Goals as goal
use Rattle.edges.proofs.add_edge.Goals.{Start}

sized : (s : Start) → let a = s.args in Places (linking a.weight) a.l a.a a.b
sized s = record { words = search rules; table = search rules }

pub returns-in_err-check_add : goal.returns-in_err-check_add
unfolding link_of as_changed told_by
returns-in_err-check_add c =
    let s = c.args in
    let back : c.from_residual.result ≡ Err c.in_err-check_add.field-0.0 = search rules in
    rw back (edge_refused (linking s.weight) s.l s.a s.b (number_told c.check_add.ensures c.in_err-check_add.was) (number_positive _))

pub returns : goal.returns
unfolding link_of as_changed told_by refusal_number
returns c =
    let s = c.args in
    edge_accepted (linking s.weight) s.l s.a s.b c.in_ok-check_add.ensures refl
    c.join.ensures c.set_both.ensures (sized (goal.at.returns c).Start) c.recounted.ensures
