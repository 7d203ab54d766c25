-- Two weights that agree on all vertices give the same edges and the same crossings.
use Rattle.std.specs.Prelude.{ℕ, ◌*◌, ◌<◌, ◌≡◌, Bool, true, ◌&&◌}
use Rattle.std.proofs.Math.Path.{ap, ap₂}
use Rattle.std.proofs.Common.{◌∙◌}
use mathlib.Core.List.{List, map, flat_map}
use Rattle.std.proofs.Math.Dec.{ltb}
use Rattle.model.specs.declared.Edge.{Edge}
use Rattle.model.specs.Lists.{one, upto, keep, sum_pairs}
use Rattle.model.specs.Crossings.{linked, edges, crosses, adjacent, weighted_edges, crossing_weight, crossings}
use Rattle.laws.specs.Sums.Indicators.{both_right}
use Rattle.laws.specs.Sums.Lists.{All, all_upto, all_kept, all_map, all_flat_map, sum_pairs_ext, flat_map_ext, keep_ext}
use Rattle.laws.specs.Crossings.Edges.{edge}

-- both ends are vertices
abbrev pub EndsBelow : ℕ → Edge → Type 0
EndsBelow n e = (e.low < n) × (e.high < n)

ends_by : (n : ℕ) (to : ℕ → ℕ → Bool) → All (EndsBelow n) (flat_map (λ a. map (edge a) (keep (λ b. ltb a b && to a b) (upto n))) (upto n))
ends_by n to =
    all_flat_map (λ a. map (edge a) (keep (higher a) (upto n))) (all_upto n)
    (λ a l. all_map (EndsBelow n) (edge a) (all_kept (higher a) (all_upto n)) (λ b h. (l, h.0)))
  where
    higher : ℕ → ℕ → Bool
    higher a b = ltb a b && to a b

pub edges_below : (n : ℕ) (adj : List ℕ) → All (EndsBelow n) (edges n adj)
unfolding edges
edges_below n adj = ends_by n (linked adj)

-- the words hold each edge
pub edges_linked : (n : ℕ) (adj : List ℕ) → All (λ e. linked adj e.low e.high ≡ true) (edges n adj)
unfolding edges
edges_linked n adj =
    all_flat_map (λ a. map (edge a) (keep (higher a) (upto n))) (all_upto n)
    (λ a l. all_map (λ e. linked adj e.low e.high ≡ true) (edge a) (all_kept (higher a) (all_upto n))
    (λ b h. both_right (ltb a b) (linked adj a b) h.1))
  where
    higher : ℕ → ℕ → Bool
    higher a b = ltb a b && linked adj a b

pub weighted_below : (n : ℕ) (W : ℕ → ℕ → ℕ) → All (EndsBelow n) (weighted_edges n W)
unfolding weighted_edges
weighted_below n W = ends_by n (adjacent W)

module _ (n : ℕ) (U W : ℕ → ℕ → ℕ) (agree : (a b : ℕ) → a < n → b < n → U a b ≡ W a b) where
  agreeing_edges : weighted_edges n U ≡ weighted_edges n W
  unfolding weighted_edges adjacent
  agreeing_edges =
      flat_map_ext (λ a. map (edge a) (keep (λ b. ltb a b && ltb 0 (U a b)) (upto n))) (λ a. map (edge a) (keep (λ b. ltb a b && ltb 0 (W a b)) (upto n)))
      (all_upto n)
      (λ a i.
      ap (map (edge a))
      (keep_ext (λ b. ltb a b && ltb 0 (U a b)) (λ b. ltb a b && ltb 0 (W a b)) (all_upto n)
      (λ b j. ap (λ (x : ℕ). ltb a b && ltb 0 x) (agree a b i j))))

  pub agreeing_crossings : (o : List ℕ) → crossings n o U ≡ crossings n o W
  unfolding crossings crossing_weight
  agreeing_crossings o =
      ap (sum_pairs (crossing_weight U o)) agreeing_edges
      ∙ sum_pairs_ext (crossing_weight U o) (crossing_weight W o) (weighted_below n W)
      (λ e f p q. ap₂ (λ (x y : ℕ). one (crosses o e f) * (x * y)) (agree e.low e.high p.0 p.1) (agree f.low f.high q.0 q.1))
