use Rattle.std.proofs.Common.{◌<◌, arith}
use Rattle.laws.specs.Small.Index.{factorial_some}
use Rattle.small_order.specs.Indices.{rest_none, found_ready, found_answered}
use Rattle.small_order.proofs.+order_rest.Goals as goal

-- none is left
pub returns-then-left-eq0-clause-result_value : goal.returns-then-left-eq0-clause-result_value
returns-then-left-eq0-clause-result_value t c = rest_none _ _ _ c.if-left-eq0.true

-- the orders of the rest are some, so that the index is divided by their number
pub nonzero_div-index : goal.nonzero_div-index
nonzero_div-index t c = rw c.orders_of-each.ensures (factorial_some _)

pub nonzero_rem-index : goal.nonzero_rem-index
nonzero_rem-index t c = rw c.orders_of-each.ensures (factorial_some _)

pub order_rest-requires : goal.order_rest-requires
order_rest-requires t c =
    let some : 0 < c.args.left = omega arith in (
      omega arith,
      found_ready c.requires.0 some c.requires.1 c.orders_of-each.ensures c.unplaced_at-v.ensures c.extended-next.ensures,
    )

-- the vertex that the index names, and then the rest
pub returns-clause-result_value : goal.returns-clause-result_value
returns-clause-result_value t c =
    found_answered c.requires.0 (omega arith) c.requires.1 c.orders_of-each.ensures c.unplaced_at-v.ensures c.extended-next.ensures
    c.order_rest.ensures.result_value
