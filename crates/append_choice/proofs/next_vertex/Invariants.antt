use Rattle.append_choice.specs.Choices.{BestUpTo}
use Rattle.append_choice.proofs.next_vertex.Given as goal

abbrev pub invariant-loop-v : goal.invariant-loop-v
invariant-loop-v l = BestUpTo l.n l.adjacency l.placed l.best l.v
