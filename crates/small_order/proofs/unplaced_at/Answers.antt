use Rattle.std.proofs.Common.{sym, ap, ◌∙◌, not}
use Rattle.small_order.specs.Indices.{free, seen_start, seen_taken, seen_passed, seen_found, seen_none}
use Rattle.small_order.proofs.unplaced_at.Goals as goal
use Rattle.small_order.proofs.unplaced_at.Goals.{then-not-is_set+else-lower-k, else-not-is_set}

pub loop-v-init : goal.loop-v-init
loop-v-init c = seen_start

pub returns-then-lower-k : goal.returns-then-lower-k
unfolding free
returns-then-lower-k c =
    seen_found c.loop-v.invariant c.loop-v-test.true (ap not (sym c.is_set.ensures ∙ c.if-not-is_set.true)) c.if-lower-k.true

pub loop-v-preserved : goal.loop-v-preserved
unfolding free
loop-v-preserved c =
    let inv = c.loop-v.invariant in
    let inside = c.loop-v-test.true in
    elim c.if-not-is_set.branch [
      | then-not-is_set+else-lower-k w ↦
          rw w.lower-is (seen_passed inv inside (ap not (sym c.is_set.ensures ∙ w.if-not-is_set.true)) w.if-lower-k.false)
      | else-not-is_set w ↦ rw w.lower-is (seen_taken inv inside (ap not (sym c.is_set.ensures ∙ w.if-not-is_set.false)))
    ]

pub returns : goal.returns
returns c = seen_none c.loop-v.invariant c.loop-v-test.false
