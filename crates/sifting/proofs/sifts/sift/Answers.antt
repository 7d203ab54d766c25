use Rattle.std.proofs.Common.{rules, ◌≡◌, ◌<◌, Err, T, sym, ◌∙◌}
use Rattle.model.specs.Answers.{refusal_number, told_by, as_sifted}
use Rattle.model.specs.Layouts.{valid}
use Rattle.model.specs.Sifting.{sift_checks, sift_answer, sift_refused, sift_of}
use Rattle.laws.specs.Layouts.Refusals.{handed_back, vertex_passed}
use Rattle.laws.specs.Sifting.Calls.{sift_accepted}
use Rattle.sifting.proofs.sifts.sift.Goals as goal
use Rattle.sifting.proofs.sifts.sift.Goals.{In_ok-check_vertex}

-- the checks have passed
passed : (c : In_ok-check_vertex) → let s = c.args in T (valid s.l) × (s.u < s.l.n)
unfolding refusal_number
passed c = let s = c.args in vertex_passed s.l s.u (sym c.in_ok-check_vertex.ensures)

pub returns-in_err-check_vertex : goal.returns-in_err-check_vertex
unfolding sift_of sift_checks as_sifted told_by
returns-in_err-check_vertex c =
    let l = c.args.l in
    let u = c.args.u in
    let back : c.from_residual.result ≡ Err c.in_err-check_vertex.field-0.0 = search rules in
    rw back (handed_back (sift_checks l u) (sift_answer l u) (sift_refused l) c.check_vertex.ensures c.in_err-check_vertex.was)

pub sift_vertex-requires : goal.sift_vertex-requires
sift_vertex-requires c = passed (goal.at.sift_vertex-requires c).In_ok-check_vertex

pub returns : goal.returns
returns c =
    let s = c.args in
    let there = passed (goal.at.returns c).In_ok-check_vertex in
    c.sift_vertex.ensures ∙ sym (sift_accepted s.l s.u there.0 there.1)
