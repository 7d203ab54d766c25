use Rattle.std.proofs.Common.{rules, ◌≡◌, Err, T, [], sym, ◌∙◌}
use Rattle.model.specs.Answers.{refusal_number, told_by, as_rounded}
use Rattle.model.specs.Layouts.{valid}
use Rattle.model.specs.Checks.{checked, by_refusal, refusal, is_valid}
use Rattle.model.specs.Sifting.{round_of}
use Rattle.laws.specs.Sums.Indicators.{T_true}
use Rattle.laws.specs.Layouts.Refusals.{handed_back, valid_passed}
use Rattle.sifting.proofs.rounds.sifting_round.Goals as goal
use Rattle.sifting.proofs.rounds.sifting_round.Goals.{In_ok-check_valid}

passed : (c : In_ok-check_valid) → T (valid c.args.l)
unfolding refusal_number
passed c = (valid_passed c.args.l [] (sym c.in_ok-check_valid.ensures)).0

pub returns-in_err-check_valid : goal.returns-in_err-check_valid
unfolding round_of as_rounded told_by
returns-in_err-check_valid c =
    let back : c.from_residual.result ≡ Err c.in_err-check_valid.field-0.0 = search rules in
    rw back (handed_back _ _ _ c.check_valid.ensures c.in_err-check_valid.was)

pub sift_vertices-requires : goal.sift_vertices-requires
sift_vertices-requires c = passed (goal.at.sift_vertices-requires c).In_ok-check_valid

pub returns : goal.returns
unfolding round_of checked by_refusal refusal is_valid
returns c = rw (T_true _ (passed (goal.at.returns c).In_ok-check_valid)) c.sift_vertices.ensures
