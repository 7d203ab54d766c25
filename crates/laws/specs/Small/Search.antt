-- A search through the list that leaves a branch out where the crossings so far have reached the least so far: it finds the least crossings and the first
-- order that has them.
use Prim.Native.Nat.{ℕ, zero, suc, ◌+◌, ◌≤◌, ◌<◌, min}
use Rattle.std.proofs.Common.{◌∙◌, eq-eqb, ne_eqb, lt-ltb, le-ltb}
use Rattle.std.proofs.Math.Nat.{min-eq_left, min-eq_right}
use native.Mathlib.Omega.{arith}
use Rattle.std.specs.Prelude.{◌≡◌, leb, ltb}
use Rattle.std.proofs.Math.Path.{refl, sym, ap, ap₂}
use Rattle.std.proofs.Math.Bool.{cond}
use mathlib.Core.List.{List, [], ◌∷◌, ◌++◌, flat_map}
use Rattle.std.proofs.Math.Dec.{eqb}
use Rattle.model.specs.Lists.{upto, first_with}
use Rattle.model.specs.Crossings.{crossings}
use Rattle.model.specs.GreedyAppend.{unplaced, back_crossings}
use Rattle.model.specs.Search.{least}
use Rattle.laws.specs.Sums.Indicators.{less, same, more, order}
use Rattle.laws.specs.Sums.Lists.{All, none, also, all_mono}
use Rattle.laws.specs.Sums.Pairs.{Symmetric}
use Rattle.laws.specs.Crossings.Lists.{closed_crossings, crossings_closed_lem}
use Rattle.laws.specs.Sifting.LocalSearch.{least_default, least_each}
use Rattle.model.specs.SmallOrders.{all_orders, least_of_all, first_least}
use Rattle.laws.specs.Small.Entries.{Leading, orders_leading}
use Rattle.laws.specs.Small.Once.{listed_has, orders_once}
use Rattle.laws.specs.Small.Least.{upto_leading}

-- ---- the best of a list, in one pass

-- the least so far, and the first order that has it
pub record Best : Type 0 where
  pub count : ℕ
  pub order : List ℕ

unfoldable pub better : (List ℕ → ℕ) → Best → List ℕ → Best
better f b o = cond (ltb (f o) b.count) (record { count = f o; order = o }) b

unfoldable pub best_in : (List ℕ → ℕ) → Best → List (List ℕ) → Best
best_in f b [] = b
best_in f b (o ∷ os) = best_in f (better f b o) os

module _ (f : List ℕ → ℕ) where
  pub better_taken : (b : Best) (o : List ℕ) → f o < b.count → better f b o ≡ record { count = f o; order = o }
  unfolding better
  better_taken b o l = rw (lt-ltb (f o) b.count l)

  pub better_kept : (b : Best) (o : List ℕ) → b.count ≤ f o → better f b o ≡ b
  unfolding better
  better_kept b o l = rw (le-ltb (f o) b.count l)

  best_append : (b : Best) (os ps : List (List ℕ)) → best_in f b (os ++ ps) ≡ best_in f (best_in f b os) ps
  unfolding best_in
  best_append b [] ps = refl
  best_append b (o ∷ os) ps = best_append (better f b o) os ps

  -- nothing better
  pub best_stays : (b : Best) {os : List (List ℕ)} → All (λ o. b.count ≤ f o) os → best_in f b os ≡ b
  unfolding best_in
  best_stays b none = refl
  best_stays b (also {x} {xs} l ls) = ap (λ (c : Best). best_in f c xs) (better_kept b x l) ∙ best_stays b ls

  -- a default taken to the least
  least_both : (c d : ℕ) (os : List (List ℕ)) → least f (min c d) os ≡ min c (least f d os)
  unfolding least
  least_both c d [] = refl
  least_both c d (o ∷ os) = omega (arith, least_both c d os)

  -- it is the least
  pub best_least : (b : Best) (os : List (List ℕ)) → (best_in f b os).count ≡ least f b.count os
  unfolding best_in least
  best_least b [] = refl
  best_least b (o ∷ os) = best_least (better f b o) os ∙ ap (λ (m : ℕ). least f m os) lower ∙ least_both (f o) b.count os
    where
      lower : (better f b o).count ≡ min (f o) b.count
      lower =
          elim (order (f o) b.count) [
            | less l ↦ ap (λ (c : Best). c.count) (better_taken b o l) ∙ omega arith
            | same e ↦ ap (λ (c : Best). c.count) (better_kept b o (omega arith)) ∙ omega arith
            | more l ↦ ap (λ (c : Best). c.count) (better_kept b o (omega arith)) ∙ omega arith
          ]

  -- and the first that has it
  pub best_first : (b : Best) (d : List ℕ) (os : List (List ℕ)) (m : ℕ) → least f b.count os ≡ m → m < b.count
      → (best_in f b os).order ≡ first_with (λ o. eqb (f o) m) d os
  unfolding best_in first_with least
  best_first b d [] m e l = absurd (omega arith)
  best_first b d (o ∷ os) m e l =
      elim (order (f o) b.count) [
        | less k ↦ ap (λ (c : Best). (best_in f c os).order) (better_taken b o k) ∙ taken k (best_first (record { count = f o; order = o }) d os m)
        | same k ↦ ap (λ (c : Best). (best_in f c os).order) (better_kept b o (omega arith)) ∙ kept (omega arith) (best_first b d os m)
        | more k ↦ ap (λ (c : Best). (best_in f c os).order) (better_kept b o (omega arith)) ∙ kept (omega arith) (best_first b d os m)
      ]
    where
      kept : b.count ≤ f o → (least f b.count os ≡ m → m < b.count → (best_in f b os).order ≡ first_with (λ p. eqb (f p) m) d os)
          → (best_in f b os).order ≡ cond (eqb (f o) m) o (first_with (λ p. eqb (f p) m) d os)
      kept k again = rw (ne_eqb (f o) m (λ z. omega arith)) (again (omega arith) l)

      taken : f o < b.count
          → (least f (f o) os ≡ m → m < f o → (best_in f (record { count = f o; order = o }) os).order ≡ first_with (λ p. eqb (f p) m) d os)
          → (best_in f (record { count = f o; order = o }) os).order ≡ cond (eqb (f o) m) o (first_with (λ p. eqb (f p) m) d os)
      taken k again =
          elim (order m (f o)) [
            | less j ↦ rw (ne_eqb (f o) m (λ z. omega arith)) (again lowest j)
            | same j ↦
                rw (eq-eqb (f o) m (sym j))
                (ap (λ (c : Best). c.order)
                (best_stays (record { count = f o; order = o }) (all_mono (least_each f (f o) os) (λ p h. omega (arith, lowest)))))
            | more j ↦ absurd (omega arith)
          ]
        where
          lowest : least f (f o) os ≡ m
          lowest = ap (λ (c : ℕ). least f c os) (sym (min-eq_left (omega arith))) ∙ least_both (f o) b.count os ∙ e

-- ---- the search

-- what each entry makes of the best so far, one after the other
unfoldable pub in_turn : (Best → ℕ → Best) → Best → List ℕ → Best
in_turn step b [] = b
in_turn step b (v ∷ vs) = in_turn step (step b v) vs

-- k vertices are still to be placed behind xs, which have met so many crossings; left out where these have reached the least so far
unfoldable pub search_rest : ℕ → (ℕ → ℕ → ℕ) → ℕ → List ℕ → ℕ → Best → Best
search_rest n W zero xs met b = cond (leb b.count met) b (record { count = met; order = xs })
search_rest n W (suc k) xs met b =
    cond (leb b.count met) b (in_turn (λ c v. search_rest n W k (xs ++ (v ∷ [])) (met + back_crossings n W xs v) c) b (unplaced n xs))

-- entry by entry what the lists give
pub turn_best : (f : List ℕ → ℕ) (step : Best → ℕ → Best) (g : ℕ → List (List ℕ)) {P : ℕ → Type 0} → ((b : Best) (v : ℕ) → P v → step b v ≡ best_in f b (g v))
    → {us : List ℕ} → All P us → (b : Best) → in_turn step b us ≡ best_in f b (flat_map g us)
unfolding in_turn best_in flat_map
turn_best f step g each none b = refl
turn_best f step g each (also {x = v} {xs = us} p ps) b =
    turn_best f step g each ps (step b v)
    ∙ ap (λ (c : Best). best_in f c (flat_map g us)) (each b v p)
    ∙ sym (best_append f b (g v) (flat_map g us))

-- ---- it gives the definition's answer

-- a larger default changes nothing where a listed order has less
least_larger : (f : List ℕ → ℕ) (m : ℕ) (os : List (List ℕ)) {c : ℕ} → least f m os ≤ c → c ≤ m → least f m os ≡ least f c os
least_larger f m os {c} l h = sym (ap (λ (d : ℕ). least f d os) (sym (min-eq_left h)) ∙ least_both f c m os ∙ min-eq_right l)

-- the same numbers for every entry
least_ext : {P : List ℕ → Type 0} (f g : List ℕ → ℕ) (d : ℕ) {os : List (List ℕ)} → All P os → ((o : List ℕ) → P o → f o ≡ g o) → least f d os ≡ least g d os
unfolding least
least_ext f g d none h = refl
least_ext f g d (also {x} p ps) h = ap₂ min (h x p) (least_ext f g d ps h)

first_ext : {P : List ℕ → Type 0} (f g : List ℕ → ℕ) (m : ℕ) (d : List ℕ) {os : List (List ℕ)} → All P os → ((o : List ℕ) → P o → f o ≡ g o)
    → first_with (λ o. eqb (f o) m) d os ≡ first_with (λ o. eqb (g o) m) d os
unfolding first_with
first_ext f g m d none h = refl
first_ext f g m d (also {x} {xs} p ps) h =
    ap₂ (λ (k : ℕ) (o : List ℕ). cond (eqb k m) x o) (h x p) (first_ext f g m d ps h)

module _ (n : ℕ) (W : ℕ → ℕ → ℕ) (symmetry : Symmetric n W) where
  closed : (o : List ℕ) → Leading n o → closed_crossings W o ≡ crossings n o W
  closed o l = sym (crossings_closed_lem l.permutation W symmetry)

  -- a pass through the list that starts with a number over all crossings
  pub pass_answer : (most : ℕ) (d : List ℕ) → crossings n (upto n) W < most
      → best_in (closed_crossings W) (record { count = most; order = d }) (all_orders n)
      ≡ record { count = least_of_all n W; order = first_least n W }
  unfolding least_of_all first_least
  pass_answer most d h = ap₂ (λ (k : ℕ) (o : List ℕ). record { count = k; order = o }) number first
    where
      f : List ℕ → ℕ
      f o = crossings n o W

      low : least f most (all_orders n) ≤ crossings n (upto n) W
      low = listed_has (upto n) (least_each f most (all_orders n)) (omega (arith, orders_once (upto_leading n)))

      lowest : least (closed_crossings W) most (all_orders n) ≡ least_of_all n W
      lowest = least_ext (closed_crossings W) f most (orders_leading n) closed ∙ least_larger f most (all_orders n) low (omega arith)

      number : (best_in (closed_crossings W) (record { count = most; order = d }) (all_orders n)).count ≡ least_of_all n W
      number = best_least (closed_crossings W) (record { count = most; order = d }) (all_orders n) ∙ lowest

      first : (best_in (closed_crossings W) (record { count = most; order = d }) (all_orders n)).order ≡ first_least n W
      first =
          best_first (closed_crossings W) (record { count = most; order = d }) (upto n) (all_orders n) (least_of_all n W) lowest
          (omega (arith, least_default f (crossings n (upto n) W) (all_orders n)))
          ∙ first_ext (closed_crossings W) f (least_of_all n W) (upto n) (orders_leading n) closed
