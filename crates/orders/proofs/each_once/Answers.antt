use Rattle.std.proofs.Common.{◌≡◌, ◌<◌, get_or-take, length-take-le, sym, ◌∙◌, arith}
use Rattle.laws.specs.Sums.Bits.{set_within}
use Rattle.laws.specs.Orders.Permutations.{at}
use Rattle.orders.specs.Seen.{seen_none, seen_next, seen_all, seen_again, not_a_vertex}
use Rattle.orders.proofs.each_once.Goals as goal
use Rattle.orders.proofs.each_once.Goals.{After-from-v, then-n-v-via-then-n-v, then-n-v-via-else-n-v+then-is_set}

inside : (c : After-from-v) → c.loop-v.v-index < c.args.n
inside c = omega (arith, length-take-le c.args.n c.args.order.now (omega arith))

vertex : (c : After-from-v) → c.from-v.result ≡ at c.args.order.now c.loop-v.v-index
vertex c = c.from-v.ensures ∙ get_or-take c.args.n c.args.order.now c.loop-v.v-index 0 (inside c)

pub loop-v-init : goal.loop-v-init
loop-v-init c = seen_none

pub returns-then-n-v : goal.returns-then-n-v
returns-then-n-v c =
    let here = (goal.at.returns-then-n-v c).After-from-v in
    elim c.then-n-v.branch [
      | then-n-v-via-then-n-v w ↦ not_a_vertex (omega arith) c.loop-v.invariant (inside here) (omega (arith, vertex here))
      | then-n-v-via-else-n-v+then-is_set w ↦
          seen_again (omega arith) c.loop-v.invariant (inside here) (vertex here) (omega arith) (sym w.is_set.ensures ∙ w.if-is_set.true)
    ]

pub loop-v-preserved : goal.loop-v-preserved
loop-v-preserved c =
    let here = (goal.at.loop-v-preserved c).After-from-v in
    seen_next c.loop-v.invariant (inside here) (vertex here) c.if-n-v.false (set_within _ _ (omega arith) c.set-seen.ensures)
    (sym c.is_set.ensures ∙ c.if-is_set.false)

pub returns : goal.returns
returns c = seen_all (omega arith) c.loop-v.invariant (omega (arith, length-take-le c.args.n c.args.order.now (omega arith)))
