use Rattle.std.proofs.Common.{rules, ◌≡◌, Err, sym, ◌∙◌}
use Rattle.model.specs.Answers.{refusal_number, told_by, as_appended}
use Rattle.model.specs.Layouts.{weight}
use Rattle.model.specs.Checks.{refusal}
use Rattle.model.specs.GreedyAppend.{place_all, lay_checks, lay_answer, lay_refused, lay_of}
use Rattle.laws.specs.Layouts.Refusals.{when_accepted, handed_back, vertex_passed}
use Rattle.append.proofs.appending.greedy_append.Goals as goal
use Rattle.append.proofs.appending.greedy_append.Goals.{In_ok-check_vertex}

-- every check has passed
accepted : (c : In_ok-check_vertex) → let s = c.args in refusal (lay_checks s.l s.s) ≡ 0
unfolding lay_checks refusal_number
accepted c = sym c.in_ok-check_vertex.ensures

pub returns-in_err-check_vertex : goal.returns-in_err-check_vertex
unfolding lay_of lay_checks as_appended told_by
returns-in_err-check_vertex c =
    let s = c.args in
    let back : c.from_residual.result ≡ Err c.in_err-check_vertex.field-0.0 = search rules in
    rw back
    (handed_back (lay_checks s.l s.s) (lay_answer s.l (place_all s.l.n s.l.adjacency (weight s.l) s.s)) (lay_refused s.l)
    c.check_vertex.ensures c.in_err-check_vertex.was)

pub append_from-requires : goal.append_from-requires
unfolding lay_checks
append_from-requires c = let s = c.args in vertex_passed s.l s.s (accepted (goal.at.append_from-requires c).In_ok-check_vertex)

pub returns : goal.returns
unfolding lay_of
returns c =
    let s = c.args in
    c.append_from.ensures
    ∙ sym
    (when_accepted (lay_checks s.l s.s) (lay_answer s.l (place_all s.l.n s.l.adjacency (weight s.l) s.s)) (lay_refused s.l)
    (accepted (goal.at.returns c).In_ok-check_vertex))
