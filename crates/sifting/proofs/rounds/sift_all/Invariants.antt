use Rattle.laws.specs.Sums.Loops.{MadeUpTo}
use Rattle.sifting.specs.Sweeps.{swept_to}
use Rattle.sifting.proofs.rounds.sift_all.Given as goal

abbrev pub invariant-loop-u : goal.invariant-loop-u
invariant-loop-u l = MadeUpTo (swept_to l.table.n l.table.weights.now l.initial.state.order) l.table.n l.state l.u
