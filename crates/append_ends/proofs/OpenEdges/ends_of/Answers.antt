use Rattle.std.proofs.Common.{ℕ, ◌%◌, ◌≤◌, ◌≡◌, length, get_or, arith, ap, ◌∙◌}
use Rattle.laws.specs.Tables.Rows.{table_weight}
use Rattle.append_ends.specs.Placed.{as_vertices, as_length, as_vertex}
use Rattle.append_ends.specs.Passes.{met_start, so_far_small, met_end}
use Rattle.append_ends.proofs.Passes.{met_next}
use Rattle.append_ends.proofs.OpenEdges.ends_of.Goals as goal
use Rattle.append_ends.proofs.OpenEdges.ends_of.Goals.{Start}

-- the list has as many entries as the loop has turns
many : (s : Start) → length (as_vertices s.args.placed.now) ≡ length s.args.placed.now
many s = as_length s.args.placed.now

short : (s : Start) → length (as_vertices s.args.placed.now) ≤ 64
short s = omega (arith, many s, s.requires)

pub loop-place-init : goal.loop-place-init
loop-place-init c = met_start

pub pass-requires : goal.pass-requires
pass-requires c =
    (so_far_small c.loop-place.invariant (short (goal.at.pass-requires c).Start), c.weight_at-closing.ensures.small)

pub loop-place-preserved : goal.loop-place-preserved
loop-place-preserved c =
    let s = c.args in
    let W = table_weight s.self.now.weights.now (s.v % 64) in
    let x = get_or s.placed.now c.loop-place.place-index 0 in
    let again : x % 64 % 64 ≡ x % 64 = omega arith in
    let weight : c.weight_at-closing.result ≡ W (x % 64 % 64) = c.weight_at-closing.ensures.is in
    let entry = as_vertex s.placed.now c.loop-place.place-index in
    met_next c.loop-place.invariant (short (goal.at.loop-place-preserved c).Start)
    (omega (arith, many (goal.at.loop-place-preserved c).Start, c.loop-place-test.true))
    (weight ∙ ap W (again ∙ entry)) c.weight_at-closing.ensures.small
    (ap (λ (p : ℕ). get_or s.self.now.sums p 0) entry) c.pass.ensures.1
    c.pass.ensures.0

pub returns : goal.returns
returns c =
    met_end c.loop-place.invariant (short (goal.at.returns c).Start) (omega (arith, many (goal.at.returns c).Start, c.loop-place-test.false))
