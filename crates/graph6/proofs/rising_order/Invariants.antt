use Rattle.model.specs.Lists.{upto}
use Rattle.laws.specs.Sums.Loops.{MadeUpTo}
use Rattle.laws.specs.Charts.Padded.{padded}
use Rattle.graph6.proofs.rising_order.Given as goal

abbrev pub invariant-loop-v : goal.invariant-loop-v
invariant-loop-v l = MadeUpTo (λ k. padded (upto k)) l.n l.order l.v
