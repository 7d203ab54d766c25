use Rattle.std.proofs.Common.{rules, ◌≡◌, Err, sym, ◌∙◌}
use Rattle.model.specs.Answers.{refusal_number, told_by, as_converged}
use Rattle.model.specs.Checks.{refusal}
use Rattle.model.specs.Sifting.{settle_checks, settle_refused, settle_of, rounds_up_to}
use Rattle.laws.specs.Layouts.Refusals.{when_accepted, handed_back}
use Rattle.laws.specs.Sifting.Calls.{limit_passed}
use Rattle.sifting.proofs.convergence.converge.Goals as goal
use Rattle.sifting.proofs.convergence.converge.Goals.{In_ok-check_limit}

-- every check has passed
accepted : (c : In_ok-check_limit) → let s = c.args in refusal (settle_checks s.l s.limit) ≡ 0
unfolding refusal_number
accepted c = sym c.in_ok-check_limit.ensures

pub returns-in_err-check_limit : goal.returns-in_err-check_limit
unfolding settle_of as_converged told_by
returns-in_err-check_limit c =
    let s = c.args in
    let back : c.from_residual.result ≡ Err c.in_err-check_limit.field-0.0 = search rules in
    rw back
    (handed_back (settle_checks s.l s.limit) (rounds_up_to s.limit s.l) (settle_refused s.l) c.check_limit.ensures c.in_err-check_limit.was)

pub settle-requires : goal.settle-requires
settle-requires c =
    let passed = limit_passed _ _ (accepted (goal.at.settle-requires c).In_ok-check_limit) in
    (passed.0, passed.2)

pub returns : goal.returns
unfolding settle_of
returns c =
    let s = c.args in
    c.settle.ensures
    ∙ sym (when_accepted (settle_checks s.l s.limit) (rounds_up_to s.limit s.l) (settle_refused s.l) (accepted (goal.at.returns c).In_ok-check_limit))
