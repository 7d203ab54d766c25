use Rattle.small_order.proofs.+order_rest.Given as goal

-- one call for each vertex that is left
abbrev pub decreases-order_rest : goal.decreases-order_rest
decreases-order_rest l = l.left
