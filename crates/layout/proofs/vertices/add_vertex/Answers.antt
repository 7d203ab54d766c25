use Rattle.std.proofs.Common.{rules, ◌≡◌, Err, [], ◌∷◌, ap, subst, sym, le-ltb, lt-ltb}
use Rattle.std.proofs.Math.Dec.{T}
use Rattle.model.specs.declared.Layout.{Layout}
use Rattle.model.specs.Answers.{refusal_number, told_by, as_added, number}
use Rattle.model.specs.Checks.{checked, by_refusal, refusal, is_valid, has_room}
use Rattle.model.specs.Edits.{add_of, add_checks, add_answer, add_refused}
use Rattle.model.specs.Layouts.{valid}
use Rattle.laws.specs.Sums.Indicators.{T_true}
use Rattle.laws.specs.Layouts.Refusals.{valid_passed, refused_by, first_failed}
use Rattle.laws.proofs.Layouts.VertexEdits.{added_kept}
use Rattle.layout.proofs.vertices.add_vertex.Goals as goal
use Rattle.layout.proofs.vertices.add_vertex.Goals.{In_ok-check_valid}

is_valid_lem : (c : In_ok-check_valid) → T (valid c.args.l)
unfolding refusal_number
is_valid_lem c = (valid_passed c.args.l _ (sym c.in_ok-check_valid.ensures)).0

pub returns-in_err-check_valid : goal.returns-in_err-check_valid
unfolding add_of add_checks as_added told_by
returns-in_err-check_valid c =
    let l = c.args.l in
    let back : c.from_residual.result ≡ Err c.in_err-check_valid.field-0.0 = search rules in
    rw back (refused_by (add_checks l) (add_answer l) (add_refused l) _
    (first_failed (is_valid l) (has_room l ∷ []) c.check_valid.ensures c.in_err-check_valid.was))

pub returns-then-n-ge64 : goal.returns-then-n-ge64
unfolding add_of add_checks checked by_refusal refusal is_valid has_room as_added told_by number
returns-then-n-ge64 c = rw (T_true _ (is_valid_lem (goal.at.returns-then-n-ge64 c).In_ok-check_valid), le-ltb c.args.l.n 64 c.if-n-ge64.true)

pub returns : goal.returns
unfolding add_of add_checks checked by_refusal refusal is_valid has_room as_added told_by
returns c =
    let l = c.args.l in
    let there = is_valid_lem (goal.at.returns c).In_ok-check_valid in
    rw (T_true _ there, lt-ltb l.n 64 c.if-n-ge64.false)
    (ap (λ (k : Layout). record { refusal = 0; layout = k; vertex = l.n })
    (added_kept l there c.if-n-ge64.false c.with_last-order.ensures.1 (search rules) c.with_last-order.ensures.0))
