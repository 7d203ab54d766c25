use Rattle.std.proofs.Common.{ℕ, ◌≡◌, ◌<◌, ◌-◌, ◌*◌, arith, sym, ap, ◌∙◌}
use Rattle.model.specs.SmallOrders.{factorial}
use Rattle.small_order.specs.Indices.{none_factorial, factorial_step, factorial_few}
use Rattle.small_order.proofs.+orders_of.Goals as goal

-- as many times the orders of one fewer
times : {k r : ℕ} → 0 < k → r ≡ factorial (k - 1) → k * r ≡ factorial k
times {k} h e = ap (λ (m : ℕ). k * m) e ∙ sym (factorial_step k h)

pub returns-then-k-eq0 : goal.returns-then-k-eq0
returns-then-k-eq0 t c = none_factorial c.if-k-eq0.true

pub overflow_mul-result : goal.overflow_mul-result
overflow_mul-result t c = omega (arith, factorial_few c.args.k c.requires, times (omega arith) c.orders_of.ensures)

pub returns : goal.returns
returns t c = times (omega arith) c.orders_of.ensures
