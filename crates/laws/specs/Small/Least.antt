-- No order at all has fewer crossings than the least of those listed, and the first with them has them.
use Prim.Native.Nat.{ℕ, zero, suc, ◌≤◌, ◌<◌}
use native.Mathlib.Omega.{arith}
use Rattle.std.specs.Prelude.{◌≡◌, Bool, true, false, drop, T, eqb}
use Rattle.std.proofs.Math.Path.{refl, sym, ap, subst}
use Rattle.std.proofs.Common.{◌∙◌, true≢false, take-append-drop, eqb→eq, eq-eqb}
use mathlib.Core.List.{List, [], ◌∷◌, ◌++◌}
use Rattle.std.proofs.Math.ListN.{length, take, length-append}
use Rattle.model.specs.declared.Layout.{Layout}
use Rattle.model.specs.Layouts.{weight, crossings_of, valid}
use Rattle.model.specs.Lists.{upto, any, occurrences, place}
use Rattle.model.specs.Crossings.{crossings}
use Rattle.laws.specs.Sums.Indicators.{less, same, more, order, T_true}
use Rattle.laws.specs.Sums.Lists.{All, all_places, all_take, all_drop, upto_at}
use Rattle.laws.specs.Sums.Any.{none_any, first_found}
use Rattle.laws.specs.Sums.Pairs.{Symmetric}
use Rattle.laws.specs.Orders.Permutations.{at, Permutation, at_lt, at_of_place, from_place, place_below, occurrences_append, upto_permutation}
use Rattle.laws.specs.Crossings.Lists.{closed_crossings, crossings_closed_lem}
use Rattle.laws.specs.Crossings.Exchange.{turned_lists}
use Rattle.laws.specs.Layouts.Validity.{sound, valid_symmetric}
use Rattle.laws.specs.Sifting.LocalSearch.{least_default, least_each, least_some}
use Rattle.model.specs.SmallOrders.{all_orders, turned, listed, least_of_all, first_least}
use Rattle.laws.specs.Small.Entries.{Leading, orders_leading}
use Rattle.laws.specs.Small.Once.{listed_has, orders_once}

module _ {n : ℕ} {o : List ℕ} (perm : Permutation n o) where
  pub turned_permutation : Permutation n (turned o)
  unfolding turned
  turned_permutation =
      record {
        size =
            length-append (drop (place o 0) o) (take (place o 0) o)
            ∙ omega (arith, length-append (take (place o 0) o) (drop (place o 0) o), ap length (take-append-drop (place o 0) o), perm.size);
        once = λ v h.
            occurrences_append v (drop (place o 0) o) (take (place o 0) o)
            ∙ omega (
              arith,
              occurrences_append v (take (place o 0) o) (drop (place o 0) o),
              ap (occurrences v) (take-append-drop (place o 0) o),
              perm.once v h,
            );
      }

  turned_first : (m : ℕ) → n ≡ m → at (turned o) 0 ≡ 0
  unfolding turned place
  turned_first zero e = by_parts o (perm.size ∙ e)
    where
      by_parts : (p : List ℕ) → length p ≡ 0 → at (drop (place p 0) p ++ take (place p 0) p) 0 ≡ 0
      by_parts [] z = refl
      by_parts (x ∷ p) z = absurd (omega arith)
  turned_first (suc m) e =
      ap (λ (p : List ℕ). at (p ++ take (place o 0) o) 0) (from_place perm (place o 0) (place_below perm 0 (omega arith)))
      ∙ at_of_place perm 0 (omega arith)

  pub turned_leading : Leading n (turned o)
  turned_leading = record { permutation = turned_permutation; first = turned_first n refl }

  -- where the order starts makes no difference
  module _ (W : ℕ → ℕ → ℕ) (s : Symmetric n W) where
    pub turned_crossings : crossings n (turned o) W ≡ crossings n o W
    unfolding turned
    turned_crossings =
        crossings_closed_lem turned_permutation W s
        ∙ turned_lists s (all_drop (place o 0) below) (all_take (place o 0) below)
        ∙ ap (closed_crossings W) (take-append-drop (place o 0) o)
        ∙ sym (crossings_closed_lem perm W s)
      where
        below : All (λ x. x < n) o
        below = all_places o (λ i h. at_lt perm i (omega (arith, perm.size)))

    -- "none has fewer crossings than the answer"
    pub none_fewer : least_of_all n W ≤ crossings n o W
    unfolding least_of_all
    none_fewer =
        subst (λ (c : ℕ). least_of_all n W ≤ c) turned_crossings
        (listed_has (turned o) (least_each (λ p. crossings n p W) (crossings n (upto n) W) (all_orders n)) (omega (arith, orders_once turned_leading)))

-- some entry passes a test that a listed order passes
pub listed_any : (p : List ℕ → Bool) (o : List ℕ) (os : List (List ℕ)) → p o ≡ true → 0 < listed o os → any p os ≡ true
listed_any p o os e h = by_test (any p os) refl
  where
    by_test : (b : Bool) → any p os ≡ b → b ≡ true
    by_test true k = refl
    by_test false k = absurd (true≢false (sym e ∙ listed_has o (none_any p os k) h))

pub upto_leading : (n : ℕ) → Leading n (upto n)
unfolding upto
upto_leading n = record { permutation = upto_permutation n; first = zero_first n }
  where
    zero_first : (m : ℕ) → at (upto m) 0 ≡ 0
    zero_first zero = refl
    zero_first (suc m) = upto_at (suc m) 0 (omega arith)

-- some order has the least crossings
some_least : (n : ℕ) (W : ℕ → ℕ → ℕ) → any (λ o. eqb (crossings n o W) (least_of_all n W)) (all_orders n) ≡ true
unfolding least_of_all
some_least n W =
    elim (order (least_of_all n W) (crossings n (upto n) W)) [
      | less l ↦ T_true _ (least_some (λ o. crossings n o W) (crossings n (upto n) W) (all_orders n) (least_of_all n W) refl l)
      | same e ↦
          listed_any (λ o. eqb (crossings n o W) (least_of_all n W)) (upto n) (all_orders n) (eq-eqb (crossings n (upto n) W) (least_of_all n W) (sym e))
          (omega (arith, orders_once (upto_leading n)))
      | more l ↦ absurd (omega (arith, least_default (λ o. crossings n o W) (crossings n (upto n) W) (all_orders n)))
    ]

-- "the first order that has them" has them, and is an order that vertex 0 leads
pub first_least_lem : (n : ℕ) (W : ℕ → ℕ → ℕ) → Leading n (first_least n W) × (crossings n (first_least n W) W ≡ least_of_all n W)
unfolding first_least
first_least_lem n W =
    let found = first_found (λ o. eqb (crossings n o W) (least_of_all n W)) (upto n) (orders_leading n) (subst T (sym (some_least n W)) tt) in
    (found.0, eqb→eq _ _ found.1)

-- a valid layout, whatever calls it came from, has no fewer
pub valid_least : (l : Layout) → T (valid l) → least_of_all l.n (weight l) ≤ crossings_of l
unfolding crossings_of
valid_least l t = none_fewer (sound l t).permutation (weight l) (valid_symmetric l t)
