use Rattle.small_order.proofs.+orders_of.Given as goal

-- one call for each number down to 0
abbrev pub decreases-orders_of : goal.decreases-orders_of
decreases-orders_of l = l.k
