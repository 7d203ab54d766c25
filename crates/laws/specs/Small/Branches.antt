-- The crossings so far of a list that grows at its back only rise, and of a full list they are its crossings: so no order that starts with the placed
-- vertices has fewer than they have met (proofs/Small/Branches.antt). Over any weight of the edges.
use Rattle.std.specs.Prelude.{ℕ, ◌≡◌, List, [], ◌∷◌}
use Rattle.model.specs.Lists.{sum_over}
use Rattle.model.specs.GreedyAppend.{unplaced}
use Rattle.laws.specs.Append.Crossings.{crossings_met, met_start}

module _ (n : ℕ) (W : ℕ → ℕ → ℕ) where
  -- the crossings met when xs are placed: of closed edges with each other, and with the open ones that leave from between their ends
  unfoldable pub met_so_far : List ℕ → ℕ
  met_so_far xs = crossings_met W (λ b. sum_over (W b) (unplaced n xs)) xs

  pub met_alone : (s : ℕ) → met_so_far (s ∷ []) ≡ 0
  unfolding met_so_far
  met_alone s = met_start W (λ b. sum_over (W b) (unplaced n (s ∷ []))) s
