use Prim.Native.Nat.{ℕ, ◌*◌, ◌-◌, ◌/◌, ◌≤◌}
use native.Mathlib.Omega.{arith}
use mathlib.Core.Path.{◌≡◌, sym, ap, ◌∙◌}
use lib.ListN.{length}
use Rattle.model.specs.Graph6.{pairs_by_higher}
use Rattle.laws.specs.Graph6.Pairs.{pairs_twice, pairs_length, pairs_most}
use Rattle.graph6_pairs.proofs.pair_count.Goals as goal
use Rattle.graph6_pairs.proofs.pair_count.Goals.{After-min-few}

-- so many pairs at most
few : (c : After-min-few) → length (pairs_by_higher c.min-few.result) ≤ 2016
few c = pairs_most (omega (arith, c.min-few.ensures))

-- a square is twice the pairs and the number itself
pub overflow_mul-result : goal.overflow_mul-result
overflow_mul-result c = omega (arith, pairs_twice c.min-few.result, few c)

pub overflow_sub-result : goal.overflow_sub-result
overflow_sub-result c = omega (arith, pairs_twice c.min-few.result)

pub returns : goal.returns
returns c =
    let n = c.min-few.result in
    let counted : (n * n - n) / 2 ≡ length (pairs_by_higher n) = sym (pairs_length n) in
    record { is = counted ∙ ap (λ (k : ℕ). length (pairs_by_higher k)) c.min-few.ensures; small = omega (arith, few c) }
