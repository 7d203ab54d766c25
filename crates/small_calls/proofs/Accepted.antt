-- What an accepted call on a small layout has passed, and what that gives the functions that it calls.
use Rattle.std.proofs.Common.{ℕ, ◌≡◌, ◌<◌, ◌≤◌, List, [], ◌∷◌, T, arith, ltb-true, leb-true}
use Rattle.model.specs.declared.Layout.{Layout}
use Rattle.model.specs.Layouts.{weight, valid}
use Rattle.model.specs.Checks.{Check, refusal, is_valid, buffer_fits}
use Rattle.model.specs.SmallOrders.{number_of_orders, is_small, is_listed}
use Rattle.laws.specs.Layouts.Validity.{sound, weights_symmetric}
use Rattle.laws.specs.Layouts.Refusals.{passed, valid_passed}
use Rattle.small_search.specs.Branches.{Graph}

-- the layout is valid and small, and the checks behind those pass
pub record Accepted (l : Layout) (cs : List Check) : Type 0 where
  pub is_valid_lem : T (valid l)
  pub small : l.n ≤ 8
  pub rest : refusal cs ≡ 0

pub accepted : (l : Layout) (cs : List Check) → refusal (is_valid l ∷ is_small l ∷ cs) ≡ 0 → Accepted l cs
unfolding is_small
accepted l cs e =
    let first = valid_passed l (is_small l ∷ cs) e in
    let second = passed (is_small l) cs (omega arith) first.1 in
    record { is_valid_lem = first.0; small = leb-true l.n 8 second.passes; rest = second.rest }

-- the index is that of an order
pub listed_passed : (l : Layout) (index : ℕ) (cs : List Check) → refusal (is_listed l index ∷ cs) ≡ 0
    → (index < number_of_orders l.n) × (refusal cs ≡ 0)
unfolding is_listed
listed_passed l index cs e =
    let first = passed (is_listed l index) cs (omega arith) e in (ltb-true index (number_of_orders l.n) first.passes, first.rest)

-- the buffer has room for an order
pub room_passed : (l : Layout) (size : ℕ) → refusal (buffer_fits l size ∷ []) ≡ 0 → l.n ≤ size
unfolding buffer_fits
room_passed l size e = leb-true l.n size (passed (buffer_fits l size) [] (omega arith) e).passes

-- the weights are such as the search asks for
pub searched : (l : Layout) (cs : List Check) → Accepted l cs → Graph l.n l.weights
unfolding weight
searched l cs a =
    let s = sound l a.is_valid_lem in
    record {
      small = a.small;
      symmetry = weights_symmetric s;
      light = s.fits.light;
      blank = λ u v h low high. s.fits.columns u v (omega (arith, a.small)) low high;
    }
