-- Some entry of a list passes, and no two entries are alike: with one entry more, or some. The first that passes.
use Rattle.std.specs.Prelude.{ℕ, zero, suc, ◌<◌, ◌≡◌, Bool, cond, ◌&&◌, ◌||◌}
use Rattle.std.proofs.Common.{not-suc-le-zero, arith, ◌∙◌, true≢false}
use Rattle.std.proofs.Math.Path.{refl, sym, ap, ap₂, subst}
use Rattle.std.proofs.Math.Bool.{true, false, not, and-false, or_assoc, or-true, or-false}
use mathlib.Core.List.{List, [], ◌∷◌, ◌++◌}
use Rattle.std.proofs.Math.Dec.{T}
use Rattle.model.specs.Lists.{upto, any, first_with, no_repeats}
use Rattle.laws.specs.Sums.Indicators.{less, same, more, order}
use Rattle.laws.specs.Sums.Lists.{All, none, also}

module _ {A : Type 0} where
  pub any_append : (p : A → Bool) (xs ys : List A) → any p (xs ++ ys) ≡ (any p xs || any p ys)
  unfolding any
  any_append p [] ys = refl
  any_append p (x ∷ xs) ys = ap (λ (b : Bool). p x || b) (any_append p xs ys) ∙ sym (or_assoc (p x) (any p xs) (any p ys))

  module _ (p : A → Bool) (xs : List A) (x : A) where
    pub any_new : p x ≡ true → any p (xs ++ (x ∷ [])) ≡ true
    unfolding any
    any_new t = rw (any_append p xs (x ∷ []), t) (or-true (any p xs))

    pub any_old : p x ≡ false → any p (xs ++ (x ∷ [])) ≡ any p xs
    unfolding any
    any_old t = rw (any_append p xs (x ∷ []), t) (or-false (any p xs))

  -- none passes exactly if each fails
  pub any_none : {p : A → Bool} {xs : List A} → All (λ x. p x ≡ false) xs → any p xs ≡ false
  unfolding any
  any_none none = refl
  any_none (also e es) = ap₂ (λ (a b : Bool). a || b) e (any_none es)

  pub none_any : (p : A → Bool) (xs : List A) → any p xs ≡ false → All (λ x. p x ≡ false) xs
  unfolding any
  none_any p [] e = none
  none_any p (x ∷ xs) e = by_test (p x) refl e (none_any p xs)
    where
      by_test : (b : Bool) → p x ≡ b → (b || any p xs) ≡ false → (any p xs ≡ false → All (λ y. p y ≡ false) xs) → All (λ y. p y ≡ false) (x ∷ xs)
      by_test true t z r = absurd (true≢false z)
      by_test false t z r = also t (r z)

  -- one entry more
  pub no_repeats_last : (alike : A → A → Bool) (xs : List A) (x : A) → no_repeats alike (xs ++ (x ∷ [])) ≡ (no_repeats alike xs && not (any (λ y. alike y x) xs))
  unfolding no_repeats any
  no_repeats_last alike [] x = refl
  no_repeats_last alike (y ∷ ys) x =
      rw (any_append (alike y) ys (x ∷ []), no_repeats_last alike ys x) (regroup (any (alike y) ys) (alike y x) (no_repeats alike ys) (any (λ z. alike z x) ys))
    where
      regroup : (a b c d : Bool) → (not (a || (b || false)) && (c && not d)) ≡ (not a && c && not (b || d))
      regroup true b c d = refl
      regroup false true c d = sym (and-false c)
      regroup false false c d = refl

  -- a repeat stays one, whatever follows
  pub no_repeats_more : (alike : A → A → Bool) (xs ys : List A) → no_repeats alike xs ≡ false → no_repeats alike (xs ++ ys) ≡ false
  unfolding no_repeats
  no_repeats_more alike [] ys e = absurd (true≢false e)
  no_repeats_more alike (x ∷ xs) ys e =
      rw (any_append (alike x) xs ys) (by_test (any (alike x) xs) (any (alike x) ys) (no_repeats alike xs) e (no_repeats_more alike xs ys))
    where
      by_test : (a b c : Bool) → (not a && c) ≡ false → (c ≡ false → no_repeats alike (xs ++ ys) ≡ false) → (not (a || b) && no_repeats alike (xs ++ ys)) ≡ false
      by_test true b c z r = refl
      by_test false true c z r = refl
      by_test false false c z r = r z

  -- the first entry with the test has it, and whatever holds of each entry
  pub first_found : {P : A → Type 0} (p : A → Bool) (d : A) {xs : List A} → All P xs → T (any p xs) → P (first_with p d xs) × T (p (first_with p d xs))
  unfolding any first_with
  first_found p d none t = absurd t
  first_found {P} p d (also {x} {xs} q qs) t = by_test (p x) refl t (first_found p d qs)
    where
      by_test : (b : Bool) → p x ≡ b → T (b || any p xs) → (T (any p xs) → P (first_with p d xs) × T (p (first_with p d xs)))
          → P (cond b x (first_with p d xs)) × T (p (cond b x (first_with p d xs)))
      by_test true e u r = (q, subst T (sym e) tt)
      by_test false e u r = r u

-- some number below n
pub any_upto : (p : ℕ → Bool) (n i : ℕ) → i < n → p i ≡ true → any p (upto n) ≡ true
unfolding upto
any_upto p zero i h t = absurd (not-suc-le-zero h)
any_upto p (suc n) i h t =
    elim (order i n) [
      | less l ↦ any_append p (upto n) (n ∷ []) ∙ ap (λ (b : Bool). b || any p (n ∷ [])) (any_upto p n i l t)
      | same e ↦ any_new p (upto n) n (ap p (sym e) ∙ t)
      | more l ↦ absurd (omega arith)
    ]
