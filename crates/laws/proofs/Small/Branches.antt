-- The crossings so far of a list that grows at its back only rise, and of a full list they are its crossings.
use Rattle.std.specs.Prelude.{ℕ, ◌+◌, ◌≤◌, ◌<◌, ◌≡◌, List, [], ◌∷◌, ◌++◌, eqb}
use native.Mathlib.Omega.{arith}
use Rattle.std.proofs.Math.Path.{sym, ap}
use Rattle.std.proofs.Common.{◌∙◌}
use Rattle.model.specs.Lists.{any, sum_over, member, occurrences}
use Rattle.model.specs.GreedyAppend.{unplaced, closing, open', back_crossings}
use Rattle.laws.specs.Sums.Any.{any_append}
use Rattle.laws.specs.Sums.Pairs.{Symmetric}
use Rattle.laws.specs.Orders.Permutations.{Permutation}
use Rattle.laws.specs.Crossings.Lists.{closed_crossings}
use Rattle.laws.specs.Append.Order.{Placed, unplaced_but, unplaced_back}
use Rattle.laws.specs.Append.Crossings.{met_back, closing_edges}
use Rattle.laws.specs.Append.Once.{around_all}
use Rattle.laws.proofs.Append.Once.{closed_all, closed_met, closed_grow}
use Rattle.laws.specs.Small.Entries.{Completes}
use Rattle.laws.specs.Small.Branches.{met_so_far}

module _ {n : ℕ} {W : ℕ → ℕ → ℕ} (symmetry : Symmetric n W) where
  -- a vertex put at the back adds what it adds to the tally of greedy append
  pub met_step : {xs : List ℕ} {v : ℕ} → Placed n xs → v < n → occurrences v xs ≡ 0 → met_so_far n W (xs ++ (v ∷ [])) ≡ met_so_far n W xs + back_crossings n W xs v
  unfolding met_so_far back_crossings closing open'
  met_step {xs} {v} p h free =
      rw (unplaced_back n xs v)
      (met_back W v (λ b. sum_over (W b) (unplaced n xs)) (λ b. sum_over (W b) (unplaced_but n xs v)) {xs = xs} (closing_edges symmetry h free p.below))

  -- once all are placed they are the crossings
  pub met_full : {o : List ℕ} → Permutation n o → met_so_far n W o ≡ closed_crossings W o
  unfolding met_so_far
  met_full {o} perm = sym (closed_met symmetry perm (around_all o)) ∙ closed_all W o

  -- so no order that starts with the placed ones has fewer than these have met
  pub branch : {xs o : List ℕ} → Completes n xs o → met_so_far n W xs ≤ closed_crossings W o
  unfolding met_so_far member
  branch {xs} {o} c =
      omega (
        arith,
        closed_met symmetry c.permutation {xs = xs} (record { ahead = []; behind = c.rest; parts = c.parts }),
        closed_grow W xs o o (λ x e. ap (any (eqb x)) c.parts ∙ any_append (eqb x) xs c.rest ∙ rw e),
        closed_all W o,
      )
