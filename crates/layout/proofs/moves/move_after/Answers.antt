use Rattle.std.proofs.Common.{rules, ◌≡◌, Err, ◌≤◌, arith, sym, ◌∙◌, length}
use Rattle.model.specs.Answers.{refusal_number, told_by, as_changed}
use Rattle.model.specs.Checks.{refusal}
use Rattle.model.specs.Edits.{move_checks, changed_to, change_refused, changed_or, move_of}
use Rattle.model.specs.Layouts.{vertex_order}
use Rattle.laws.specs.Layouts.Validity.{sound}
use Rattle.laws.specs.Layouts.Refusals.{Pair, pair_passed, handed_back, changed_accepted}
use Rattle.laws.specs.Layouts.Reordering.{moved_layout}
use Rattle.places.specs.MovedPlaces.{moved_array, move_recounted}
use Rattle.layout.proofs.moves.move_after.Goals as goal
use Rattle.layout.proofs.moves.move_after.Goals.{In_ok-check_pair}

accepted : (c : In_ok-check_pair) → let s = c.args in refusal (move_checks s.l s.a s.b) ≡ 0
unfolding refusal_number
accepted c = sym c.in_ok-check_pair.ensures

pair : (c : In_ok-check_pair) → let s = c.args in Pair s.l s.a s.b
pair c = let s = c.args in pair_passed s.l s.a s.b (accepted c)

size : (c : In_ok-check_pair) → length c.args.l.order ≡ 64
size c = search rules

pub returns-in_err-check_pair : goal.returns-in_err-check_pair
unfolding move_of as_changed told_by changed_or vertex_order
returns-in_err-check_pair c =
    let s = c.args in
    let back : c.from_residual.result ≡ Err c.in_err-check_pair.field-0.0 = search rules in
    rw back (handed_back (move_checks s.l s.a s.b) (changed_to (moved_layout s.l s.a s.b)) (change_refused s.l) c.check_pair.ensures c.in_err-check_pair.was)

pub shared_ref_as_front-place_of : goal.shared_ref_as_front-place_of
shared_ref_as_front-place_of c = let s = goal.at.shared_ref_as_front-place_of c in (sound c.args.l (pair s.In_ok-check_pair).is_valid_lem).small

pub returns : goal.returns
unfolding move_of vertex_order as_changed told_by
returns c =
    let s = c.args in
    let there = (goal.at.returns c).In_ok-check_pair in
    changed_accepted s.l (move_checks s.l s.a s.b) (moved_layout s.l s.a s.b) (accepted there)
    (c.recounted.ensures
    ∙ move_recounted (pair there) (moved_array (pair there) (size there) c.place_of-p.ensures c.place_of-q.ensures c.moved-order.ensures))
