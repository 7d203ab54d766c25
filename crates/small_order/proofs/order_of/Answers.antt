use Rattle.std.proofs.Common.{ℕ, ◌-◌, arith, take, sym, ap, ◌∙◌}
use Rattle.model.specs.SmallOrders.{number_of_orders}
use Rattle.laws.specs.Small.Index.{rest_at}
use Rattle.small_prefix.specs.declared.Prefix.{Prefix}
use Rattle.small_prefix.specs.Prefixes.{entries, ready_alone}
use Rattle.small_order.specs.Indices.{none_order, order_right}
use Rattle.small_order.proofs.order_of.Goals as goal

pub returns-then-n-eq0 : goal.returns-then-n-eq0
returns-then-n-eq0 c = none_order _ c.if-n-eq0.true c.requires.1

pub order_rest-done-requires : goal.order_rest-done-requires
unfolding number_of_orders
order_rest-done-requires c = (rw c.zero_first.ensures (ready_alone (omega arith) c.requires.0), c.requires.1)

pub returns : goal.returns
returns c =
    let s = c.args in
    ap (λ (k : ℕ). take k c.order_rest-done.result.places) (sym c.order_rest-done.ensures.full)
    ∙ c.order_rest-done.ensures.result_value
    ∙ ap (λ (p : Prefix). rest_at s.n (s.n - 1) (entries p) s.index) c.zero_first.ensures
    ∙ order_right (omega arith) c.requires.1
