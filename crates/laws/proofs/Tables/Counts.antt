-- The most that the counter of weighted crossings can answer.
use Rattle.std.specs.Prelude.{ℕ, ◌*◌, ◌≤◌, List}
use Rattle.std.proofs.Math.Decide.{dec_le}
use Rattle.std.proofs.Common.{arith, le-leb}
use Rattle.std.proofs.lemmas.Bool.{lt-leb}
use Rattle.laws.specs.Crossings.Bound.{most_crossings}
use Rattle.laws.proofs.Crossings.Bound.{crossing_sum_bound}
use Rattle.laws.specs.Crossings.Masks.{vertex_at}
use Rattle.laws.specs.Tables.Counts.{weight_at, counted}

-- weights of at most 255 give at most 41,315,324,400
pub counted_most : (n : ℕ) (order : List ℕ) (W : ℕ → ℕ → ℕ) → ((u v : ℕ) → W u v ≤ 255) → counted n order W ≤ 255 * 255 * most_crossings
unfolding counted weight_at
counted_most n order W h =
    elim (dec_le n 64) [
      | yes l ↦ rw (le-leb n 64 l) (crossing_sum_bound n 255 (weight_at order W) l (λ i j a b. h (vertex_at order i) (vertex_at order j)))
      | no l ↦ rw (lt-leb n 64 (omega arith)) (omega arith)
    ]
