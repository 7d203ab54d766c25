use Rattle.std.proofs.Common.{rules, ◌≡◌, ◌<◌, arith, Err, refl}
use Rattle.model.specs.Answers.{refusal_number, number}
use Rattle.model.specs.Checks.{refusal}
use Rattle.model.specs.Crossings.{linked}
use Rattle.model.specs.Edits.{move_checks}
use Rattle.laws.specs.Layouts.Refusals.{number_told, number_positive, link_before}
use Rattle.edges.specs.EdgeCalls.{first_inside, may_join, byte_weight, no_weight}
use Rattle.edges.proofs.check_add.Goals as goal
use Rattle.edges.proofs.check_add.Goals.{In_ok-check_pair}

passed : (c : In_ok-check_pair) → let s = c.args in 0 ≡ refusal (move_checks s.l s.a s.b)
unfolding refusal_number
passed c = c.in_ok-check_pair.ensures

-- the first vertex is a place of the array
inside : (c : In_ok-check_pair) → c.args.a < 64
inside c = let s = c.args in first_inside s.l s.a s.b (passed c) refl

pub returns-in_err-check_pair : goal.returns-in_err-check_pair
unfolding refusal_number
returns-in_err-check_pair c =
    let s = c.args in
    let back : c.from_residual.result ≡ Err c.in_err-check_pair.field-0.0 = search rules in
    rw back (link_before s.l s.a s.b s.weight (number_told c.check_pair.ensures c.in_err-check_pair.was) (number_positive _))

pub bounds-l-a : goal.bounds-l-a
bounds-l-a c = inside (goal.at.bounds-l-a c).In_ok-check_pair

-- the edge is there:
-- that is told
-- whatever the weight is
pub returns-then-is_set : goal.returns-then-is_set
unfolding linked refusal_number number
returns-then-is_set c =
    let s = c.args in
    may_join s.l s.a s.b (passed (goal.at.returns-then-is_set c).In_ok-check_pair) refl c.is_set.ensures s.weight (rw c.if-is_set.true)

pub returns-then-weight-eq0 : goal.returns-then-weight-eq0
unfolding linked refusal_number number
returns-then-weight-eq0 c =
    let s = c.args in
    may_join s.l s.a s.b (passed (goal.at.returns-then-weight-eq0 c).In_ok-check_pair) refl c.is_set.ensures s.weight
    (rw (c.if-is_set.false, no_weight _ c.if-weight-eq0.true))

pub returns : goal.returns
unfolding linked refusal_number
returns c =
    let s = c.args in
    may_join s.l s.a s.b (passed (goal.at.returns c).In_ok-check_pair) refl c.is_set.ensures s.weight
    (rw (c.if-is_set.false, byte_weight _ (omega arith) c.if-weight-eq0.false))

pub offset_bounds-l-a : goal.offset_bounds-l-a
offset_bounds-l-a c = omega (arith, inside (goal.at.offset_bounds-l-a c).In_ok-check_pair)
