-- The table of weights: the weight of v towards y stands at 64 v + y. Sums over its rows.
use Prim.Native.Nat.{ℕ, ◌+◌, ◌*◌, ◌-◌, ◌%◌, ◌≤◌, ◌<◌}
use Rattle.std.proofs.Common.{add-sub_of_le, add-zero, mod-eq_of_lt, not-suc-le-zero, add-one, sym, ◌∙◌, length-set, get_or-set_same, get_or-set_other, below_more}
use Rattle.std.proofs.Math.Nat.{zero-mul}
use native.Mathlib.Omega.{arith}
use Rattle.std.specs.Prelude.{◌≡◌, refl, List, length, set}
use Rattle.std.proofs.Math.Path.{ap, ap₂}
use Rattle.std.proofs.Math.ListN.{get_or}
use Rattle.model.specs.Lists.{upto, sum_over}
unfoldable pub use Rattle.model.specs.Layouts.{table_weight}
use Rattle.laws.specs.Sums.Numbers.{Bounded}
use Rattle.laws.specs.Sums.Ranges.{sum, sum_ext, sum_cut, sum_zero}
use Rattle.laws.specs.Sums.Lists.{sum_over_upto}

-- the sum of a row, and that of its products with the numbers kept
unfoldable pub row_weight : List ℕ → ℕ → ℕ
row_weight ws v = sum 64 (λ y. table_weight ws v y)

unfoldable pub row_sum : List ℕ → ℕ → List ℕ → ℕ
row_sum ws v rs = sum 64 (λ y. table_weight ws v y * (get_or rs y 0 % 32768))

-- 64 bytes, and 64 products of a byte and a number of 15 bits
abbrev pub most_weight : ℕ
most_weight = 16320

abbrev pub most_sum : ℕ
most_sum = 534757440

-- ---- a loop that sums terms of at most c

pub record SummedUpTo (f : ℕ → ℕ) (c total i : ℕ) : Type 0 where
  pub inside : i ≤ 64
  pub summed : total ≡ sum i f
  pub few : total ≤ c * i

module _ {f : ℕ → ℕ} {c : ℕ} where
  pub summed_start : SummedUpTo f c 0 0
  unfolding sum
  summed_start = record { inside = omega arith; summed = refl; few = omega arith }

  module _ {total i : ℕ} (s : SummedUpTo f c total i) where
    pub summed_next : i < 64 → {x : ℕ} → x ≡ f i → x ≤ c → SummedUpTo f c (total + x) (i + 1)
    unfolding sum
    summed_next h e few =
        rw (add-one i) (record { inside = h; summed = ap₂ ◌+◌ s.summed e; few = omega (arith, s.few) })

    pub summed_end : 64 ≤ i → Bounded (sum 64 f) (c * 64) total
    summed_end h =
        let all : i ≡ 64 = omega (arith, s.inside) in
        record { is = s.summed ∙ ap (λ (k : ℕ). sum k f) all; small = omega (arith, s.few, ap (λ (k : ℕ). c * k) all) }

-- ---- only vertices below n have weights

module _ (n : ℕ) (small : n ≤ 64) (f : ℕ → ℕ) where
  pub row_cut : ((y : ℕ) → n ≤ y → y < 64 → f y ≡ 0) → sum 64 f ≡ sum_over f (upto n)
  row_cut blank =
      ap (λ (k : ℕ). sum k f) (sym (add-sub_of_le small))
      ∙ sum_cut n (64 - n) f
      ∙ ap (λ (x : ℕ). sum n f + x) (sum_zero (64 - n) (λ i. f (n + i)) (λ i l. blank (n + i) (omega arith) (omega arith)))
      ∙ add-zero (sum n f)
      ∙ sym (sum_over_upto f n)

module _ {n : ℕ} (ws : List ℕ) (v : ℕ) (small : n ≤ 64) (blank : (y : ℕ) → n ≤ y → y < 64 → table_weight ws v y ≡ 0) where
  pub row_weight_lem : row_weight ws v ≡ sum_over (table_weight ws v) (upto n)
  unfolding row_weight
  row_weight_lem = row_cut n small (λ y. table_weight ws v y) blank

  pub row_products : (rs : List ℕ) → ((y : ℕ) → get_or rs y 0 < 32768) → row_sum ws v rs ≡ sum_over (λ y. table_weight ws v y * get_or rs y 0) (upto n)
  unfolding row_sum
  row_products rs low =
      sum_ext 64 (λ y. table_weight ws v y * (get_or rs y 0 % 32768)) (λ y. table_weight ws v y * get_or rs y 0)
      (λ y l. ap (λ (x : ℕ). table_weight ws v y * x) (mod-eq_of_lt (low y)))
      ∙ row_cut n small (λ y. table_weight ws v y * get_or rs y 0) (λ y h l. ap (λ (x : ℕ). x * get_or rs y 0) (blank y h l) ∙ zero-mul (get_or rs y 0))

-- ---- the weights of all vertices

pub record RowsOf (ws rows : List ℕ) : Type 0 where
  pub row_is : (v : ℕ) → v < 64 → get_or rows v 0 ≡ row_weight ws v

-- ---- a row added to numbers of 16 bits, or taken away from them

pub record AddedRow (ws : List ℕ) (v : ℕ) (xs ys : List ℕ) : Type 0 where
  pub size : length ys ≡ 64
  pub added : (y : ℕ) → y < 64 → get_or ys y 0 ≡ (get_or xs y 0 + table_weight ws v y) % 65536
  pub light : (y : ℕ) → y < 64 → table_weight ws v y ≤ 255

pub record TakenRow (ws : List ℕ) (v : ℕ) (xs ys : List ℕ) : Type 0 where
  pub size : length ys ≡ 64
  pub taken : (y : ℕ) → y < 64 → get_or ys y 0 ≡ (get_or xs y 0 + (65536 - table_weight ws v y)) % 65536
  pub light : (y : ℕ) → y < 64 → table_weight ws v y ≤ 255
  pub fits : (y : ℕ) → y < 64 → get_or xs y 0 < 65536

-- a number that contains the weight loses exactly that
pub taken_exact : {ws xs ys : List ℕ} {v : ℕ} → TakenRow ws v xs ys → (y : ℕ) → y < 64 → table_weight ws v y ≤ get_or xs y 0
    → get_or ys y 0 + table_weight ws v y ≡ get_or xs y 0
taken_exact t y l h = omega (arith, t.taken y l, t.light y l, t.fits y l)

-- a loop that changes each number x by a weight w to f x w
pub record ChangingUpTo (f : ℕ → ℕ → ℕ) (ws : List ℕ) (v : ℕ) (xs ys : List ℕ) (k : ℕ) : Type 0 where
  pub inside : k ≤ 64
  pub size : length ys ≡ 64
  pub changed : (y : ℕ) → y < k → get_or ys y 0 ≡ f (get_or xs y 0) (table_weight ws v y)
  pub light : (y : ℕ) → y < k → table_weight ws v y ≤ 255
  pub fits : (y : ℕ) → y < k → get_or xs y 0 < 65536
  pub still : (y : ℕ) → k ≤ y → get_or ys y 0 ≡ get_or xs y 0

abbrev pub added_to : ℕ → ℕ → ℕ
added_to x w = (x + w) % 65536

abbrev pub taken_from : ℕ → ℕ → ℕ
taken_from x w = (x + (65536 - w)) % 65536

module _ {f : ℕ → ℕ → ℕ} {ws : List ℕ} {v : ℕ} {xs : List ℕ} where
  pub changing_start : length xs ≡ 64 → ChangingUpTo f ws v xs xs 0
  changing_start e =
      record {
        inside = omega arith;
        size = e;
        changed = λ y l. absurd (not-suc-le-zero l);
        light = λ y l. absurd (not-suc-le-zero l);
        fits = λ y l. absurd (not-suc-le-zero l);
        still = λ y l. refl;
      }

  pub changing_next : {ys : List ℕ} {k : ℕ} → ChangingUpTo f ws v xs ys k → k < 64 → {w x : ℕ} → w ≡ table_weight ws v k → w ≤ 255
      → x ≡ f (get_or ys k 0) w → get_or ys k 0 < 65536 → ChangingUpTo f ws v xs (set ys k x) (k + 1)
  changing_next {ys} {k} s h {w} {x} e few made small =
      record {
        inside = omega arith;
        size = length-set ys k x ∙ s.size;
        changed =
            below_more (λ y. get_or (set ys k x) y 0 ≡ f (get_or xs y 0) (table_weight ws v y)) k
            (λ y l. get_or-set_other ys k y x 0 (λ d. omega arith) ∙ s.changed y l)
            (get_or-set_same ys k x 0 (omega (arith, s.size)) ∙ made ∙ ap₂ f (s.still k (omega arith)) e);
        light = below_more (λ y. table_weight ws v y ≤ 255) k s.light (rw (← e) few);
        fits = below_more (λ y. get_or xs y 0 < 65536) k s.fits (rw (s.still k (omega arith)) at small);
        still = λ y l. get_or-set_other ys k y x 0 (λ d. omega arith) ∙ s.still y (omega arith);
      }

module _ {ws : List ℕ} {v : ℕ} {xs ys : List ℕ} {k : ℕ} where
  pub added_end : ChangingUpTo added_to ws v xs ys k → 64 ≤ k → AddedRow ws v xs ys
  added_end s h = record { size = s.size; added = λ y l. s.changed y (omega arith); light = λ y l. s.light y (omega arith) }

  pub taken_end : ChangingUpTo taken_from ws v xs ys k → 64 ≤ k → TakenRow ws v xs ys
  taken_end s h =
      record {
        size = s.size;
        taken = λ y l. s.changed y (omega arith);
        light = λ y l. s.light y (omega arith);
        fits = λ y l. s.fits y (omega arith);
      }
