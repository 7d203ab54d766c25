-- Edges that words hold weigh 1: the crossings over weights are then the pairs of edges that cross, as document 01 defines them.
use Rattle.std.specs.Prelude.{ℕ, ◌<◌, ◌≡◌, refl, Bool, true, false, ◌&&◌, List, map, ltb}
use Rattle.std.proofs.Common.{mul-one, ap, ◌∙◌}
use Rattle.model.specs.Lists.{one, upto, keep, sum_pairs}
use Rattle.model.specs.Crossings.{linked, edges, crosses, crossing_pairs, unit_weight, adjacent, weighted_edges, edge_weight, crossing_weight, crossings}
use Rattle.laws.specs.Sums.Indicators.{both_right}
use Rattle.laws.specs.Sums.Lists.{All, all_upto, all_kept, all_map, all_flat_map, sum_pairs_ext, flat_map_ext, keep_ext}
use Rattle.laws.specs.Crossings.Edges.{edge}

-- where an edge weighs exactly where the words hold it, the edges are theirs
pub same_edges_lem : (n : ℕ) (adj : List ℕ) (W : ℕ → ℕ → ℕ) → ((a b : ℕ) → a < n → b < n → adjacent W a b ≡ linked adj a b) → weighted_edges n W ≡ edges n adj
unfolding weighted_edges edges
same_edges_lem n adj W agree =
    flat_map_ext (λ a. map (edge a) (keep (λ b. ltb a b && adjacent W a b) (upto n))) (λ a. map (edge a) (keep (λ b. ltb a b && linked adj a b) (upto n)))
    (all_upto n)
    (λ a i.
    ap (map (edge a))
    (keep_ext (λ b. ltb a b && adjacent W a b) (λ b. ltb a b && linked adj a b) (all_upto n) (λ b j. ap (λ (x : Bool). ltb a b && x) (agree a b i j))))

positive_one : (b : Bool) → ltb 0 (one b) ≡ b
unfolding one
positive_one true = refl
positive_one false = refl

pub unit_adjacent : (adj : List ℕ) (a b : ℕ) → adjacent (unit_weight adj) a b ≡ linked adj a b
unfolding adjacent
unit_adjacent adj a b = positive_one (linked adj a b)

pub unit_edges : (n : ℕ) (adj : List ℕ) → weighted_edges n (unit_weight adj) ≡ edges n adj
unit_edges n adj = same_edges_lem n adj (unit_weight adj) (λ a b i j. unit_adjacent adj a b)

-- each of them weighs 1
pub unit_weights : (n : ℕ) (adj : List ℕ) → All (λ e. edge_weight (unit_weight adj) e ≡ 1) (edges n adj)
unfolding edges one
unit_weights n adj =
    all_flat_map (λ a. map (edge a) (keep (higher a) (upto n))) (all_upto n)
    (λ a l. all_map (λ e. edge_weight (unit_weight adj) e ≡ 1) (edge a) (all_kept (higher a) (all_upto n))
    (λ b h. ap one (both_right (ltb a b) (linked adj a b) h.1)))
  where
    higher : ℕ → ℕ → Bool
    higher a b = ltb a b && linked adj a b

pub unit_crossings : (n : ℕ) (o adj : List ℕ) → crossings n o (unit_weight adj) ≡ crossing_pairs n o adj
unfolding crossings crossing_pairs crossing_weight
unit_crossings n o adj =
    ap (sum_pairs (crossing_weight (unit_weight adj) o)) (unit_edges n adj)
    ∙ sum_pairs_ext (crossing_weight (unit_weight adj) o) (λ e f. one (crosses o e f)) (unit_weights n adj)
    (λ e f p q. rw (p, q) (mul-one (one (crosses o e f))))
