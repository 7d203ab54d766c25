-- The sum that the counter of weighted crossings answers for any bytes, its bound, and that of an order that holds each vertex once it is the crossings.
use Rattle.std.specs.Prelude.{ℕ, ◌*◌, ◌≤◌, ◌<◌, ◌≡◌, cond, List, take, leb}
use Rattle.std.proofs.Common.{sym, ap₂, ◌∙◌, le-leb}
use Rattle.model.specs.Crossings.{crossings}
use Rattle.laws.specs.Sums.Ranges.{sum4_ext}
use Rattle.laws.specs.Sums.Pairs.{Symmetric}
use Rattle.laws.specs.Orders.Permutations.{Permutation}
use Rattle.laws.specs.Crossings.Alternation.{rising}
use Rattle.laws.specs.Crossings.Counting.{crossing_sum, placed}
use Rattle.laws.specs.Crossings.Masks.{vertex_at, vertex_within}
use Rattle.laws.specs.Crossings.Edges.{crossings_sum}

-- the weight of the vertex at place i towards the one at place j
unfoldable pub weight_at : List ℕ → (ℕ → ℕ → ℕ) → ℕ → ℕ → ℕ
weight_at order W i j = W (vertex_at order i) (vertex_at order j)

-- over places i < j < k < l, the weight from i to k times the weight from j to l
unfoldable pub counted : ℕ → List ℕ → (ℕ → ℕ → ℕ) → ℕ
counted n order W = cond (leb n 64) (crossing_sum n (weight_at order W)) 0

crossing_sum_ext : (n : ℕ) (v w : ℕ → ℕ → ℕ) → ((i j : ℕ) → i < n → j < n → v i j ≡ w i j) → crossing_sum n v ≡ crossing_sum n w
unfolding crossing_sum
crossing_sum_ext n v w h =
    sum4_ext n (λ i j k l. rising i j k l * (v i k * v j l)) (λ i j k l. rising i j k l * (w i k * w j l))
    (λ i j k l a b c d. ap₂ (λ (x y : ℕ). rising i j k l * (x * y)) (h i k a c) (h j l b d))

-- of an order that holds each vertex once, and symmetric weights
pub counted_crossings : {n : ℕ} (order : List ℕ) {W : ℕ → ℕ → ℕ} → n ≤ 64 → Permutation n (take n order) → Symmetric n W
    → counted n order W ≡ crossings n (take n order) W
unfolding counted weight_at
counted_crossings {n} order {W} small permutation symmetry =
    let vertex = vertex_within order small permutation in
    rw (le-leb n 64 small)
    (crossing_sum_ext n (weight_at order W) (placed (take n order) W) (λ i j a b. ap₂ W (vertex i a) (vertex j b))
    ∙ sym (crossings_sum permutation W symmetry))
