use Rattle.std.proofs.Common.{[], refl, sym, ◌∙◌, add-one, drop-cons, drop_of_length-le}
use Rattle.chart_bodies.specs.Words.{joined_start, joined_next, joined_again, joined_end}
use Rattle.chart_bodies.proofs.join_edges.Goals as goal

pub loop-a-init : goal.loop-a-init
loop-a-init c = joined_start refl c.as_chunks.ensures.front

pub returns-then-is_set : goal.returns-then-is_set
returns-then-is_set c =
    let more = drop-cons c.as_chunks.result.0.now c.loop-a.a-index [] c.loop-a-test.true in
    let t = joined_again c.loop-a.invariant more (sym c.is_set.ensures ∙ c.if-is_set.true) c.args.adjacency.now in
    record { result_value = t.0; adjacency_after = t.1 }

pub loop-a-preserved : goal.loop-a-preserved
loop-a-preserved c =
    rw (add-one c.loop-a.a-index)
    (joined_next c.loop-a.invariant (drop-cons c.as_chunks.result.0.now c.loop-a.a-index [] c.loop-a-test.true)
    (sym c.is_set.ensures ∙ c.if-is_set.false) c.join.ensures)

pub returns : goal.returns
returns c =
    let t = joined_end c.loop-a.invariant (drop_of_length-le c.as_chunks.result.0.now c.loop-a-test.false) c.args.adjacency.now in
    record { result_value = t.0; adjacency_after = t.1 }
