-- The crossings of a valid layout, counted over places, and the most that they can be.
use Rattle.std.specs.Prelude.{◌*◌, ◌≤◌, ◌≡◌, T, ltb}
use Rattle.std.proofs.Common.{le_trans, le_of_eq, lt_of_lt_of_le, arith, ◌∙◌}
use Rattle.model.specs.declared.Layout.{Layout}
use Rattle.model.specs.Lists.{one}
use Rattle.model.specs.Layouts.{vertex_order, crossings_of, valid}
use Rattle.laws.specs.Sums.Ranges.{sum}
use Rattle.laws.specs.Orders.Permutations.{at, at_lt}
use Rattle.laws.specs.Sums.Pairs.{pair_sum}
use Rattle.laws.specs.Crossings.Counting.{crossing_sum_counted}
use Rattle.laws.specs.Crossings.Bound.{most_weighted}
use Rattle.laws.proofs.Crossings.Bound.{crossing_sum_bound}
use Rattle.laws.specs.Layouts.Validity.{sound, weight_most, place_weight, crossings_rising}

module _ (l : Layout) (t : T (valid l)) where
  -- counted with two counts for each pair of places j < k: the edges from before j to k, and those from j to beyond k
  pub crossings_counted : crossings_of l
      ≡ pair_sum l.n
      (λ j k. sum l.n (λ i. one (ltb i j) * place_weight l i k) * sum l.n (λ m. one (ltb k m) * place_weight l j m))
  crossings_counted = crossings_rising l t ∙ crossing_sum_counted l.n (place_weight l)

  -- 41,315,324,400
  pub crossings_bound : crossings_of l ≤ most_weighted
  crossings_bound =
      let s = sound l t in
      le_trans (le_of_eq (crossings_rising l t))
      (crossing_sum_bound l.n 255 (place_weight l) s.small
      (λ i j a b. weight_most l t (at (vertex_order l) i) (at (vertex_order l) j)
      (lt_of_lt_of_le (at_lt s.permutation i (omega arith)) s.small) (lt_of_lt_of_le (at_lt s.permutation j b) s.small)))
