-- A valid layout of 64 vertices with all edges has the most crossings possible.
use Rattle.std.specs.Prelude.{ℕ, ◌*◌, ◌<◌, ◌≡◌, T}
use Rattle.std.proofs.Common.{arith, ap, ◌∙◌, subst}
use Rattle.model.specs.declared.Layout.{Layout}
use Rattle.model.specs.Lists.{place}
use Rattle.model.specs.Layouts.{vertex_order, weight, crossings_of, valid}
use Rattle.laws.specs.Orders.Permutations.{at, Permutation, at_lt, place_of_at}
use Rattle.laws.specs.Crossings.Counting.{crossing_sum}
use Rattle.laws.specs.Crossings.Bound.{most_crossings, most_weighted}
use Rattle.laws.proofs.Crossings.Bound.{crossing_sum_complete}
use Rattle.laws.specs.Layouts.Validity.{sound, place_weight, crossings_rising}

-- "Most possible: 635,376, for 64 devices with all links."; where each weighs w, the products are w * w
pub crossings_complete : (l : Layout) (w : ℕ) → T (valid l) → l.n ≡ 64
    → ((u v : ℕ) → u < 64 → v < 64 → (u ≡ v → ⊥) → weight l u v ≡ w) → crossings_of l ≡ w * w * most_crossings
crossings_complete l w t size joined =
    crossings_rising l t ∙ ap (λ (n : ℕ). crossing_sum n (place_weight l)) size ∙ crossing_sum_complete w (place_weight l) all_weigh
  where
    perm : Permutation 64 (vertex_order l)
    perm = subst (λ (n : ℕ). Permutation n (vertex_order l)) size (sound l t).permutation

    all_weigh : (i j : ℕ) → i < j → j < 64 → place_weight l i j ≡ w
    all_weigh i j h b =
        joined (at (vertex_order l) i) (at (vertex_order l) j) (at_lt perm i (omega arith)) (at_lt perm j b)
        (λ e. omega (arith, place_of_at perm i (omega arith), place_of_at perm j b, ap (place (vertex_order l)) e))

-- so 255 gives the most that there can be: 41,315,324,400
pub crossings_most : (l : Layout) → T (valid l) → l.n ≡ 64 → ((u v : ℕ) → u < 64 → v < 64 → (u ≡ v → ⊥) → weight l u v ≡ 255)
    → crossings_of l ≡ most_weighted
crossings_most l t size joined = crossings_complete l 255 t size joined
