-- One pass over the placed vertices, with the closing and the open weight met so far, counts the crossings at both ends.
use Rattle.std.specs.Prelude.{ℕ, ◌+◌, ◌*◌, ◌≤◌, ◌<◌, ◌≡◌, List, [], ◌∷◌, ◌++◌, length, take}
use Rattle.std.proofs.Common.{mul-le-mul, arith, sym, ◌∙◌, take_all}
use Rattle.std.proofs.Math.Path.{refl, ap}
use Rattle.std.proofs.Math.ListN.{get_or}
use Rattle.model.specs.Lists.{sum_over, sum_pairs}
use Rattle.laws.specs.Sums.Lists.{sum_over_scale, sum_over_scale_right, sum_over_last, sum_pairs_last}
use Rattle.laws.specs.Tables.Rows.{table_weight}
use Rattle.append_ends.specs.declared.Met.{Met}
use Rattle.append_ends.specs.Ends.{ends_of, most_at_end}

-- ---- the pass

-- one more vertex, with the weight of its closing edge and of its open ones
unfoldable pub passed_of : Met → ℕ → ℕ → Met
passed_of met c o =
    record {
      front = met.front + c * met.opening;
      back = met.back + met.closing * o;
      closing = met.closing + c;
      opening = met.opening + o;
    }

module _ (ws opens : List ℕ) (v : ℕ) where
  -- all of it, by sums
  unfoldable pub met_of : List ℕ → Met
  met_of xs =
      record {
        front = (ends_of ws opens v xs).front;
        back = (ends_of ws opens v xs).back;
        closing = sum_over (table_weight ws v) xs;
        opening = sum_over (λ q. get_or opens q 0) xs;
      }

  met_none : met_of [] ≡ record { front = 0; back = 0; closing = 0; opening = 0 }
  unfolding met_of ends_of sum_pairs sum_over
  met_none = refl

  pub met_last : (xs : List ℕ) (x : ℕ) → met_of (xs ++ (x ∷ [])) ≡ passed_of (met_of xs) (table_weight ws v x) (get_or opens x 0)
  unfolding met_of ends_of passed_of
  met_last xs x =
      rw (
        sum_pairs_last x (λ q p. table_weight ws v p * get_or opens q 0) xs,
        sum_pairs_last x (λ p q. table_weight ws v p * get_or opens q 0) xs,
        sum_over_last x (table_weight ws v) xs,
        sum_over_last x (λ q. get_or opens q 0) xs,
        sum_over_scale (table_weight ws v x) (λ q. get_or opens q 0) xs,
        sum_over_scale_right (get_or opens x 0) (table_weight ws v) xs,
      )

-- ---- the numbers stay small

-- with k vertices met, each of which adds to an end at most a byte times 64 numbers of 16 bits
pub record Small (met : Met) (k : ℕ) : Type 0 where
  pub front : met.front ≤ 1069531200 * k
  pub back : met.back ≤ 1069531200 * k
  pub closing : met.closing ≤ 255 * k
  pub opening : met.opening ≤ 65535 * k

small_most : {met : Met} {k : ℕ} → Small met k → k ≤ 64 → Small met 64
small_most s h =
    record {
      front = omega (arith, s.front);
      back = omega (arith, s.back);
      closing = omega (arith, s.closing);
      opening = omega (arith, s.opening);
    }

-- one more vertex adds two products
pub front_adds : {met : Met} {c : ℕ} → Small met 64 → c ≤ 255 → c * met.opening ≤ 1069531200
front_adds s light = mul-le-mul {n₂ = 255} {m₂ = 4194240} light s.opening

pub back_adds : {met : Met} {o : ℕ} → Small met 64 → o ≤ 65535 → met.closing * o ≤ 1069531200
back_adds s fits = mul-le-mul {n₂ = 16320} {m₂ = 65535} s.closing fits

pub small_next : {met : Met} {c o k : ℕ} → Small met k → k < 64 → c ≤ 255 → o ≤ 65535 → Small (passed_of met c o) (k + 1)
unfolding passed_of
small_next {met} {c} {o} {k} s h light fits =
    let most = small_most s (omega arith) in
    record {
      front = omega (arith, s.front, front_adds most light);
      back = omega (arith, s.back, back_adds most fits);
      closing = omega (arith, s.closing);
      opening = omega (arith, s.opening);
    }

-- ---- the loop over the placed vertices

pub record MetUpTo (ws opens : List ℕ) (v : ℕ) (xs : List ℕ) (met : Met) (i : ℕ) : Type 0 where
  pub inside : i ≤ length xs
  pub counted : met ≡ met_of ws opens v (take i xs)
  pub few : Small met i

module _ {ws opens : List ℕ} {v : ℕ} {xs : List ℕ} where
  pub met_start : MetUpTo ws opens v xs (record { front = 0; back = 0; closing = 0; opening = 0 }) 0
  met_start =
      record {
        inside = omega arith;
        counted = sym (met_none ws opens v);
        few = record { front = omega arith; back = omega arith; closing = omega arith; opening = omega arith };
      }

  module _ {met : Met} {i : ℕ} (m : MetUpTo ws opens v xs met i) (short : length xs ≤ 64) where
    pub so_far_small : Small met 64
    so_far_small = small_most m.few (omega (arith, m.inside))

    pub met_end : length xs ≤ i
        → (record { front = met.front; back = met.back } ≡ ends_of ws opens v xs) × ((met.front ≤ most_at_end) × (met.back ≤ most_at_end))
    unfolding met_of
    met_end h = (
      ap (λ (m : Met). record { front = m.front; back = m.back }) m.counted ∙ ap (ends_of ws opens v) (take_all i xs h),
      (omega (arith, so_far_small.front), omega (arith, so_far_small.back)),
    )
