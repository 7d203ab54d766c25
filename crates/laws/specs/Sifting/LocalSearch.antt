-- The best of a present state and its candidates, whatever is counted and however a candidate is made.
use Prim.Native.Nat.{ℕ, ◌+◌, ◌≤◌, ◌<◌, zero-le, min}
use Rattle.std.proofs.Math.Nat.{le_refl, le_trans, min-le_left, min-le_right, min-eq_right}
use Rattle.std.proofs.Common.{le_antisymm, sym, ◌∙◌, subst, eqb→eq, eq-eqb, ltb-true, ltb-false}
use native.Mathlib.Omega.{arith}
use Rattle.std.specs.Prelude.{◌≡◌, Bool, ◌||◌, length, get_or}
use Rattle.std.proofs.Math.Path.{refl, ap, ap₂}
use Rattle.std.proofs.Math.Bool.{true, false, cond}
use mathlib.Core.List.{List, [], ◌∷◌, map}
use Rattle.std.proofs.Math.Dec.{T, eqb}
use Rattle.model.specs.Lists.{one, any, first_with, sum_over, All, none, also}
use Rattle.model.specs.Search.{least, count_with, least_cost, better, chosen}
use Rattle.laws.specs.Sums.Indicators.{less, same, more, order, one_le, one_eq}
use Rattle.laws.specs.Sums.Ranges.{term_le}
use Rattle.laws.specs.Sums.Lists.{all_mono, sum_over_places, sum_over_map, sum_over_ext}
use Rattle.laws.specs.Sums.Any.{first_found}

-- ---- the least of a list

or_right : (a b : Bool) → T b → T (a || b)
or_right true b t = tt
or_right false b t = t

module _ {A : Type 0} (f : A → ℕ) (d : ℕ) where
  pub least_default : (xs : List A) → least f d xs ≤ d
  unfolding least
  least_default [] = le_refl d
  least_default (x ∷ xs) = le_trans (min-le_right (f x) (least f d xs)) (least_default xs)

  pub least_each : (xs : List A) → All (λ x. least f d xs ≤ f x) xs
  unfolding least
  least_each [] = none
  least_each (x ∷ xs) =
      also (min-le_left (f x) (least f d xs)) (all_mono (least_each xs) (λ y l. le_trans (min-le_right (f x) (least f d xs)) l))

  -- where no entry is below the default, that is the least
  pub least_stays : {xs : List A} → All (λ x. d ≤ f x) xs → least f d xs ≡ d
  unfolding least
  least_stays none = refl
  least_stays (also h hs) = rw (least_stays hs) (min-eq_right h)

  -- a least below the default is that of an entry
  pub least_some : (xs : List A) (m : ℕ) → least f d xs ≡ m → m < d → T (any (λ x. eqb (f x) m) xs)
  unfolding least any
  least_some [] m e h = absurd (omega arith)
  least_some (x ∷ xs) m e h =
      elim (order (f x) m) [
        | less l ↦ absurd (omega arith)
        | same k ↦ rw (eq-eqb (f x) m k) tt
        | more l ↦ or_right (eqb (f x) m) (any (λ y. eqb (f y) m) xs) (least_some xs m (omega arith) h)
      ]

-- ---- how many entries have a value

module _ {A : Type 0} (f : A → ℕ) (k : ℕ) where
  pub count_most : (xs : List A) → count_with f k xs ≤ length xs
  unfolding count_with sum_over
  count_most [] = zero-le
  count_most (x ∷ xs) = omega (arith, one_le (eqb (f x) k), count_most xs)

  -- some where one is found, or stands at a place
  pub count_any : (xs : List A) → T (any (λ x. eqb (f x) k) xs) → 1 ≤ count_with f k xs
  unfolding count_with sum_over any one
  count_any [] t = absurd t
  count_any (x ∷ xs) t = by_test (eqb (f x) k) t (count_any xs)
    where
      by_test : (b : Bool) → T (b || any (λ y. eqb (f y) k) xs) → (T (any (λ y. eqb (f y) k) xs) → 1 ≤ count_with f k xs) → 1 ≤ one b + count_with f k xs
      by_test true s r = omega arith
      by_test false s r = omega (arith, r s)

  pub count_at : (d : A) (xs : List A) (i : ℕ) → i < length xs → f (get_or xs i d) ≡ k → 1 ≤ count_with f k xs
  unfolding count_with
  count_at d xs i h e =
      omega (
        arith,
        sum_over_places (λ x. one (eqb (f x) k)) d xs,
        term_le (length xs) (λ j. one (eqb (f (get_or xs j d)) k)) i h,
        one_eq (f (get_or xs i d)) k e,
      )

-- the least is that of some entry, if the default is that of one
pub least_counted : {A : Type 0} (f : A → ℕ) (k : ℕ) (d : A) (xs : List A) (i : ℕ) → i < length xs → f (get_or xs i d) ≡ k
    → 1 ≤ count_with f (least f k xs) xs
least_counted f k d xs i h e =
    elim (order (least f k xs) k) [
      | less l ↦ count_any f (least f k xs) xs (least_some f k xs (least f k xs) refl l)
      | same q ↦ count_at f (least f k xs) d xs i h (e ∙ sym q)
      | more l ↦ absurd (omega (arith, least_default f k xs))
    ]

-- ---- the best of the present state and its candidates

module _ {A : Type 0} (cost : A → ℕ) (present : A) (others : List A) where
  -- the least cost, whether it is less than that of the present state, and the state that is chosen
  abbrev fewest : ℕ
  fewest = least_cost cost present others

  abbrev gains : Bool
  gains = better cost present others

  abbrev best : A
  best = chosen cost present others

  pub chosen_stays : gains ≡ false → best ≡ present
  chosen_stays e = rw e

  stays_least : gains ≡ false → cost present ≡ fewest
  stays_least e = le_antisymm (ltb-false fewest (cost present) e) (least_default cost (cost present) others)

  found : {P : A → Type 0} → All P others → gains ≡ true → P best × T (eqb (cost best) fewest)
  found ps e =
      rw e
      (first_found (λ c. eqb (cost c) fewest) present ps (least_some cost (cost present) others fewest refl (ltb-true fewest (cost present) e)))

  -- where one costs less, the chosen one has what all candidates have
  pub chosen_goes : {P : A → Type 0} → All P others → gains ≡ true → P best
  chosen_goes ps e = (found ps e).0

  -- so it has what they and the present one have
  pub chosen_has : {P : A → Type 0} → P present → All P others → P best
  chosen_has {P} p ps = by_test gains refl
    where
      by_test : (b : Bool) → gains ≡ b → P best
      by_test true e = chosen_goes ps e
      by_test false e = subst P (sym (chosen_stays e)) p

  -- its cost is the least
  pub chosen_least : cost best ≡ fewest
  chosen_least = by_test gains refl
    where
      by_test : (b : Bool) → gains ≡ b → cost best ≡ fewest
      by_test true e = eqb→eq (cost best) fewest (found {P = λ c. Unit} (all_mono (least_each cost (cost present) others) (λ c l. tt)) e).1
      by_test false e = ap cost (chosen_stays e) ∙ stays_least e

-- ---- the same candidates, said otherwise: g c costs what c costs

module _ {A B : Type 0} (f : A → ℕ) (e : B → ℕ) (g : A → B) where
  pub least_same : (d : ℕ) {xs : List A} → All (λ x. e (g x) ≡ f x) xs → least e d (map g xs) ≡ least f d xs
  unfolding least
  least_same d none = refl
  least_same d (also r rs) = ap₂ min r (least_same d rs)

  pub count_same : (k : ℕ) {xs : List A} → All (λ x. e (g x) ≡ f x) xs → count_with e k (map g xs) ≡ count_with f k xs
  unfolding count_with
  count_same k {xs} all =
      sum_over_map (λ y. one (eqb (e y) k)) g xs
      ∙ sum_over_ext (λ x. one (eqb (e (g x)) k)) (λ x. one (eqb (f x) k)) all (λ x r. ap (λ (y : ℕ). one (eqb y k)) r)

  first_same : (k : ℕ) (d : A) {xs : List A} → All (λ x. e (g x) ≡ f x) xs
      → first_with (λ y. eqb (e y) k) (g d) (map g xs) ≡ g (first_with (λ x. eqb (f x) k) d xs)
  unfolding first_with
  first_same k d none = refl
  first_same k d (also {x} {xs} r rs) =
      ap₂ (λ (b : Bool) (y : B). cond b (g x) y) (ap (λ (j : ℕ). eqb j k) r) (first_same k d rs) ∙ by_test (eqb (f x) k)
    where
      by_test : (b : Bool) → cond b (g x) (g (first_with (λ x. eqb (f x) k) d xs)) ≡ g (cond b x (first_with (λ x. eqb (f x) k) d xs))
      by_test true = refl
      by_test false = refl

  -- so the chosen one is the same
  pub chosen_same : (p : A) {xs : List A} → e (g p) ≡ f p → All (λ x. e (g x) ≡ f x) xs → chosen e (g p) (map g xs) ≡ g (chosen f p xs)
  chosen_same p {xs} r rs =
      let same : least_cost e (g p) (map g xs) ≡ least_cost f p xs = ap (λ (d : ℕ). least e d (map g xs)) r ∙ least_same (f p) rs in
      rw (same, r, first_same (least_cost f p xs) p rs) (by_test (better f p xs))
    where
      first : A
      first = first_with (λ x. eqb (f x) (least_cost f p xs)) p xs

      by_test : (b : Bool) → cond b (g first) (g p) ≡ g (cond b first p)
      by_test true = refl
      by_test false = refl
