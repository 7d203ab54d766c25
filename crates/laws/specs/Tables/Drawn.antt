-- An order and a table of weights that can be drawn, and the sums over its rows that are then sums over the order.
use Rattle.std.specs.Prelude.{ℕ, ◌*◌, ◌≤◌, ◌<◌, ◌≡◌, List, take}
use Rattle.std.proofs.Common.{lt_of_lt_of_le, ◌∙◌}
use Rattle.std.proofs.Math.ListN.{length}
use Rattle.model.specs.Lists.{sum_over}
use Rattle.laws.specs.Sums.Lists.{All, all_mono, sum_over_most}
use Rattle.laws.specs.Sums.Pairs.{Symmetric}
use Rattle.laws.specs.Orders.Permutations.{at, Permutation, order_sum}
use Rattle.laws.specs.Crossings.Masks.{vertex_at, vertex_within}
use Rattle.laws.specs.Crossings.Chords.{joining}
use Rattle.laws.specs.Tables.Rows.{table_weight, row_weight, row_weight_lem}

-- an order that holds each vertex once, and symmetric weights of a byte, 0 towards numbers that are no vertices
pub record Weighted (n : ℕ) (order ws : List ℕ) : Type 0 where
  pub small : n ≤ 64
  pub permutation : Permutation n (take n order)
  pub symmetry : Symmetric n (table_weight ws)
  pub blank : (u v : ℕ) → u < 64 → n ≤ v → v < 64 → table_weight ws u v ≡ 0
  pub light : (u v : ℕ) → u < 64 → v < 64 → table_weight ws u v ≤ 255

module _ {n : ℕ} {order ws : List ℕ} (d : Weighted n order ws) where
  -- the vertex at a place, which is read modulo 64
  pub weighted_vertex : (j : ℕ) → j < n → vertex_at order j ≡ at (take n order) j
  weighted_vertex = vertex_within order d.small d.permutation

  -- the weight of a vertex, over the order
  pub weighted_row : (v : ℕ) → v < 64 → row_weight ws v ≡ sum_over (table_weight ws v) (take n order)
  weighted_row v h = row_weight_lem ws v d.small (λ y. d.blank v y h) ∙ order_sum d.permutation (table_weight ws v)

  -- of some vertices towards one, and towards some
  pub weighted_towards : (y : ℕ) → y < 64 → {xs : List ℕ} → All (λ a. a < n) xs → sum_over (λ a. table_weight ws a y) xs ≤ 255 * length xs
  weighted_towards y h below = sum_over_most (λ a. table_weight ws a y) 255 (all_mono below (λ a l. d.light a y (lt_of_lt_of_le l d.small) h))

  pub weighted_joining : {xs ys : List ℕ} → All (λ a. a < n) xs → All (λ a. a < n) ys → joining (table_weight ws) xs ys ≤ 255 * length ys * length xs
  unfolding joining
  weighted_joining {xs} {ys} below others =
      sum_over_most (λ a. sum_over (table_weight ws a) ys) (255 * length ys)
      (all_mono below
      (λ a l. sum_over_most (table_weight ws a) 255 (all_mono others (λ b m. d.light a b (lt_of_lt_of_le l d.small) (lt_of_lt_of_le m d.small)))))
