-- Links whose ends are taken modulo 64, and edges by the number of bytes.
use Rattle.std.specs.Prelude.{ℕ, ◌/◌, ◌%◌, ◌≡◌, refl, true, List, [], ◌∷◌, map, length, get_or}
use Rattle.std.proofs.Common.{mod-eq_of_lt, arith, ap₂}
use Rattle.std.proofs.lemmas.List.{length-map}
use Rattle.std.proofs.Math.ListN.{get_or-map}
use Rattle.model.specs.declared.Edge.{Edge}
use Rattle.model.specs.Lists.{every}
use Rattle.model.specs.Charts.{edges_in, edge_within}
use Rattle.laws.specs.Sums.Indicators.{both_left, both_right}
use Rattle.laws.specs.Charts.Ends.{edge, edge_ends}

-- each end modulo 64
unfoldable pub wrapped : List ℕ → List ℕ
wrapped links = map (λ e. e % 64) links

pub wrapped_length : (links : List ℕ) → length (wrapped links) ≡ length links
unfolding wrapped
wrapped_length links = length-map links (λ e. e % 64)

pub wrapped_at : (links : List ℕ) (i : ℕ) → get_or (wrapped links) i 0 ≡ get_or links i 0 % 64
unfolding wrapped
wrapped_at links i = get_or-map (λ (e : ℕ). e % 64) links i 0

-- links with ends below 64 stay what they are
pub wrapped_edges : (links : List ℕ) → every (edge_within 64) (edges_in links) ≡ true → edges_in (wrapped links) ≡ edges_in links
unfolding wrapped edges_in every edge
wrapped_edges [] e = refl
wrapped_edges (a ∷ []) e = refl
wrapped_edges (a ∷ b ∷ rest) e =
    let ends = edge_ends 64 a b (both_left (edge_within 64 (edge a b)) (every (edge_within 64) (edges_in rest)) e) in
    ap₂ (λ (x : Edge) (xs : List Edge). x ∷ xs) (ap₂ edge (mod-eq_of_lt ends.first) (mod-eq_of_lt ends.second))
    (wrapped_edges rest (both_right (edge_within 64 (edge a b)) (every (edge_within 64) (edges_in rest)) e))

-- two bytes for each edge
pub edges_number : (links : List ℕ) → length (edges_in links) ≡ length links / 2
unfolding edges_in
edges_number [] = refl
edges_number (a ∷ []) = refl
edges_number (a ∷ b ∷ rest) = omega (arith, edges_number rest)
