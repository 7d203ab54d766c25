use Rattle.std.proofs.Common.{arith}
use Rattle.chart_bodies.specs.Order.{answer_length, answer_places, answer_misplaced}
use Rattle.chart_bodies.proofs.ask_order.Goals as goal
use Rattle.chart_bodies.proofs.ask_order.Goals.{else-body-n-via-then-body-n+else-is_order, else-body-n-via-else-body-n}

pub returns-then-is_order : goal.returns-then-is_order
returns-then-is_order c = answer_places _ _ (omega (arith, c.if-body-n.true)) c.is_order.ensures c.if-is_order.true

pub returns-else-body-n : goal.returns-else-body-n
returns-else-body-n c =
    elim c.else-body-n.branch [
      | else-body-n-via-then-body-n+else-is_order w ↦ answer_misplaced _ _ (omega (arith, w.if-body-n.true)) w.is_order.ensures w.if-is_order.false
      | else-body-n-via-else-body-n w ↦ answer_length _ _ (λ e. omega (arith, w.if-body-n.false))
    ]
