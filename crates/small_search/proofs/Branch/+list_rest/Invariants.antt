use Rattle.std.proofs.Common.{◌-◌}
use Rattle.laws.specs.Tables.Rows.{table_weight}
use Rattle.small_prefix.specs.Prefixes.{entries}
use Rattle.small_search.specs.Turns.{step_at, TurnsUpTo}
use Rattle.small_search.proofs.Branch.+list_rest.Given as goal

abbrev pub invariant-loop-v : goal.invariant-loop-v
invariant-loop-v l =
    let b = l.self in
    TurnsUpTo l.n (step_at l.n (table_weight b.edges.weights.now) (l.left - 1) (entries b.prefix) b.met) (entries b.prefix) l.initial.found l.found l.v

-- one call for each vertex that is left, in a loop over the vertices
abbrev pub decreases-list_rest : goal.decreases-list_rest
decreases-list_rest l = l.left
