-- What playing a list of calls promises, of one origin and of another that it is.
use Rattle.std.specs.Prelude.{◌≡◌, List, ℕ, length}
use Rattle.std.proofs.Common.{subst}
use Rattle.model.specs.declared.Origin.{Origin}
use Rattle.model.specs.declared.Played.{Played}
use Rattle.model.specs.Playing.{start_of, played_calls, play_of, table_of}
use Rattle.history.specs.Demand3.{Demand3}

-- what is returned, the table at exit, and the claim over the calls played
abbrev Promised : (bytes calls table : List ℕ) → Played → List ℕ → Origin → Type 0
Promised bytes calls table r after from =
    (r ≡ play_of from bytes calls (length table))
    × ((after ≡ table_of from bytes calls table) × Demand3 (start_of from bytes).layout (played_calls from bytes calls (length table)))

pub played_from_lem : (bytes calls table : List ℕ) {r : Played} {after : List ℕ} {from to : Origin}
    → from ≡ to → Promised bytes calls table r after from → Promised bytes calls table r after to
played_from_lem bytes calls table {r} {after} = subst (Promised bytes calls table r after)
