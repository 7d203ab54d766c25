-- The loops of the counter: what they have counted so far, and that no sum grows too large.
use Prim.Native.Nat.{ℕ, suc, ◌+◌, ◌*◌, ◌-◌, ◌≤◌, ◌<◌}
use Rattle.std.proofs.Common.{add-zero, mul-le-mul, le_antisymm, add-one, ◌∙◌}
use Rattle.std.proofs.Math.Nat.{mod-eq_of_lt}
use native.Mathlib.Omega.{arith}
use Rattle.std.specs.Prelude.{◌≡◌, refl, List, length, replicate, ltb}
use Rattle.std.proofs.Math.Path.{sym, ap, ap₂}
use Rattle.std.proofs.Math.ListN.{get_or, length-replicate, get_or-replicate}
use Rattle.model.specs.Lists.{one}
use Rattle.laws.specs.Sums.Ranges.{sum, sum_ext, sum_first, sum_below, sum_above}
use Rattle.laws.specs.Sums.Pairs.{pair_sum, pair_sum_ext}
use Rattle.laws.specs.Crossings.Counting.{crossing_sum, crossing_sum_counted}
use Rattle.laws.specs.Crossings.Masks.{vertex_at}
use Rattle.laws.specs.Tables.Rows.{table_weight, AddedRow}
use Rattle.laws.specs.Tables.Counts.{weight_at}

-- ---- sums over the places from k on

unfoldable pub sum_from : ℕ → ℕ → (ℕ → ℕ) → ℕ
sum_from k n f = sum (n - k) (λ i. f (k + i))

from_end : (n : ℕ) (f : ℕ → ℕ) → sum_from n n f ≡ 0
unfolding sum_from sum
from_end n f = let e : n - n ≡ 0 = omega arith in rw e

from_next : (k n : ℕ) (f : ℕ → ℕ) → k < n → sum_from k n f ≡ f k + sum_from (suc k) n f
unfolding sum_from
from_next k n f h =
    let further : (i : ℕ) → k + suc i ≡ suc k + i = λ i. omega arith in
    let e : n - k ≡ suc (n - suc k) = omega arith in
    ap (λ (m : ℕ). sum m (λ i. f (k + i))) e
    ∙ sum_first (n - suc k) (λ i. f (k + i))
    ∙ ap₂ (λ (x y : ℕ). x + y) (ap f (add-zero k)) (sum_ext (n - suc k) (λ i. f (k + suc i)) (λ i. f (suc k + i)) (λ i l. ap f (further i)))

-- ---- the crossings by rows

-- the weight of the vertex at a place towards the one at another
abbrev pub place_weight : List ℕ → List ℕ → ℕ → ℕ → ℕ
place_weight order weights = weight_at order (table_weight weights)

module _ (n : ℕ) (order weights : List ℕ) where
  abbrev w : ℕ → ℕ → ℕ
  w = place_weight order weights

  -- the weight of all before j towards k, times the weight of j towards all behind k
  unfoldable pub count_pair : ℕ → ℕ → ℕ
  count_pair j k = sum j (λ i. w i k) * sum_from (suc k) n (w j)

  unfoldable pub count_row : ℕ → ℕ
  count_row j = sum_from (suc j) n (count_pair j)

  rows_sum : sum n count_row ≡ crossing_sum n w
  unfolding count_row count_pair pair_sum sum_from
  rows_sum =
      sym
      (crossing_sum_counted n w
      ∙ pair_sum_ext n (λ j k. sum n (λ i. one (ltb i j) * w i k) * sum n (λ l. one (ltb k l) * w j l)) count_pair
      (λ j k a b. ap₂ (λ (x y : ℕ). x * y) (sum_below n j (λ i. w i k) (omega arith)) (sum_above n k (w j) b))
      ∙ sum_ext n (λ j. sum n (λ k. one (ltb j k) * count_pair j k)) count_row (λ j a. sum_above n j (count_pair j) a))

-- ---- the weight of all before j towards each vertex

pub record Before (order weights before : List ℕ) (j : ℕ) : Type 0 where
  pub size : length before ≡ 64
  pub on : (x : ℕ) → x < 64 → get_or before x 0 ≡ sum j (λ i. table_weight weights (vertex_at order i) x)
  pub few : (x : ℕ) → x < 64 → get_or before x 0 ≤ 255 * j

vertex_below : (order : List ℕ) (k : ℕ) → vertex_at order k < 64
unfolding vertex_at
vertex_below order k = omega arith

module _ {order weights : List ℕ} where
  pub before_start : Before order weights (replicate 64 0) 0
  unfolding sum
  before_start =
      record {
        size = length-replicate {A = ℕ} 64 0;
        on = λ x l. get_or-replicate 64 x 0 0 l;
        few = λ x l. omega (arith, get_or-replicate {A = ℕ} 64 x 0 0 l);
      }

  pub before_next : {before after : List ℕ} {j u : ℕ} → Before order weights before j → j < 64 → AddedRow weights u before after → u ≡ vertex_at order j
      → Before order weights after (suc j)
  unfolding sum
  before_next {before} {after} {j} {u} b h a e =
      record {
        size = a.size;
        on = λ x l. exact x l ∙ ap₂ (λ (s v : ℕ). s + table_weight weights v x) (b.on x l) e;
        few = λ x l. omega (arith, exact x l, a.light x l, b.few x l);
      }
    where
      -- no sum reaches 2^16
      exact : (x : ℕ) → x < 64 → get_or after x 0 ≡ get_or before x 0 + table_weight weights u x
      exact x l = a.added x l ∙ mod-eq_of_lt (omega (arith, a.light x l, b.few x l))

-- ---- one row

-- a product of two weights of 63 vertices each, and 64 such products
abbrev pub most_pair : ℕ
most_pair = 258084225

abbrev pub most_row : ℕ
most_row = 16517390400

pub record RowCounted (n : ℕ) (order weights : List ℕ) (j total : ℕ) : Type 0 where
  pub counted : total ≡ count_row n order weights j
  pub few : total ≤ most_row

-- the places from k on
pub record RowFrom (n : ℕ) (order weights : List ℕ) (j beyond total k : ℕ) : Type 0 where
  pub small : n ≤ 64
  pub later : j < k
  pub inside : k ≤ n
  pub weight_beyond : beyond ≡ sum_from k n (place_weight order weights j)
  pub counted : total ≡ sum_from k n (count_pair n order weights j)
  pub beyond_few : beyond ≤ 255 * (n - k)
  pub few : total ≤ most_pair * (n - k)

module _ {n : ℕ} {order weights : List ℕ} {j : ℕ} where
  pub row_start : n ≤ 64 → j < n → RowFrom n order weights j 0 0 n
  row_start s h =
      record {
        small = s;
        later = h;
        inside = omega arith;
        weight_beyond = sym (from_end n (place_weight order weights j));
        counted = sym (from_end n (count_pair n order weights j));
        beyond_few = omega arith;
        few = omega arith;
      }

  module _ {before : List ℕ} (b : Before order weights before j) {beyond total k : ℕ} (r : RowFrom n order weights j beyond total k) (h : j + 1 < k)
      {pair x : ℕ} (p : pair ≡ get_or before x 0 * beyond) (e : x ≡ vertex_at order (k - 1)) where
    x_below : x < 64
    x_below = rw e (vertex_below order (k - 1))

    pair_few : pair ≤ most_pair
    pair_few =
        rw p
        (mul-le-mul {n₂ = 16065} {m₂ = 16065} (omega (arith, b.few x x_below, r.inside, r.small))
        (omega (arith, r.beyond_few, r.later, r.small)))

    pair_is : pair ≡ count_pair n order weights j (k - 1)
    unfolding count_pair weight_at
    pair_is =
        let after : suc (k - 1) ≡ k = omega arith in
        let towards : get_or before x 0 ≡ sum j (λ i. table_weight weights (vertex_at order i) (vertex_at order (k - 1))) = rw (← e) (b.on x x_below) in
        rw after (p ∙ ap₂ (λ (s t : ℕ). s * t) towards r.weight_beyond)

    pub row_fits : total + pair ≤ most_row
    row_fits = omega (arith, pair_few, r.few, r.later, r.inside, r.small)

    pub row_next : {weight u v : ℕ} → weight ≡ table_weight weights u v → weight ≤ 255 → u ≡ vertex_at order j → v ≡ vertex_at order (k - 1)
        → RowFrom n order weights j (beyond + weight) (total + pair) (k - 1)
    unfolding weight_at
    row_next {weight} q few f g =
        let after : suc (k - 1) ≡ k = omega arith in
        let below : k - 1 < n = omega (arith, r.inside) in
        let here : weight ≡ place_weight order weights j (k - 1) = q ∙ ap₂ (table_weight weights) f g in
        record {
          small = r.small;
          later = omega arith;
          inside = omega (arith, r.inside);
          weight_beyond = sym (from_next (k - 1) n (place_weight order weights j) below ∙ rw (after, ← r.weight_beyond, ← here) (omega arith));
          counted = sym (from_next (k - 1) n (count_pair n order weights j) below ∙ rw (after, ← r.counted, ← pair_is) (omega arith));
          beyond_few = omega (arith, r.beyond_few, r.inside);
          few = omega (arith, r.few, pair_few, r.inside);
        }

  pub row_end : {beyond total k : ℕ} → RowFrom n order weights j beyond total k → k ≤ j + 1 → RowCounted n order weights j total
  unfolding count_row
  row_end {beyond} {total} {k} r h =
      let all : k ≡ suc j = omega (arith, r.later) in
      record {
        counted = r.counted ∙ ap (λ (m : ℕ). sum_from m n (count_pair n order weights j)) all;
        few = omega (arith, r.few, r.small);
      }

-- ---- all rows

-- those of the places before j
pub record CountUpTo (n : ℕ) (order weights before : List ℕ) (total j : ℕ) : Type 0 where
  pub small : n ≤ 64
  pub inside : j ≤ n
  pub passed : Before order weights before j
  pub counted : total ≡ sum j (count_row n order weights)
  pub few : total ≤ most_row * j

module _ {n : ℕ} {order weights : List ℕ} where
  pub count_start : n ≤ 64 → CountUpTo n order weights (replicate 64 0) 0 0
  unfolding sum
  count_start s = record { small = s; inside = omega arith; passed = before_start; counted = refl; few = omega arith }

  module _ {before : List ℕ} {total j : ℕ} (c : CountUpTo n order weights before total j) where
    pub count_next : j < n → {row : ℕ} → RowCounted n order weights j row → {after : List ℕ} {u : ℕ} → AddedRow weights u before after
        → u ≡ vertex_at order j → CountUpTo n order weights after (total + row) (j + 1)
    unfolding sum
    count_next h r a e =
        rw (add-one j)
        (record {
          small = c.small;
          inside = h;
          passed = before_next c.passed (omega (arith, c.small)) a e;
          counted = ap₂ (λ (s t : ℕ). s + t) c.counted r.counted;
          few = omega (arith, c.few, r.few);
        })

    pub count_end : n ≤ j → total ≡ crossing_sum n (place_weight order weights)
    count_end h = c.counted ∙ ap (λ (m : ℕ). sum m (count_row n order weights)) (le_antisymm c.inside h) ∙ rows_sum n order weights
