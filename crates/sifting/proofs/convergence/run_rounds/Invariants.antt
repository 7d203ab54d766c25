use Rattle.std.proofs.Common.{◌≡◌}
use Rattle.sifting.specs.Settling.{SettlingUpTo}
use Rattle.sifting.proofs.convergence.run_rounds.Given as goal

abbrev pub invariant-loop : goal.invariant-loop
invariant-loop l =
    record {
      settling : SettlingUpTo l.table.n l.initial.state.order l.table.weights.now l.limit l.state;
      counted : l.state.rounds ≡ l.counter;
    }
