-- A test of every entry of a list, or of every number below n, against the entries one by one.
use Rattle.std.specs.Prelude.{ℕ, suc, ◌+◌, ◌≤◌, ◌<◌, ◌≡◌, Bool, true, false, cond, ◌&&◌, length, get_or, drop, T}
use Rattle.std.proofs.Common.{add-one, sym, ◌∙◌, subst, drop_of_length-le, drop-cons}
use Rattle.std.proofs.Math.Path.{refl, ap, ap₂}
use mathlib.Core.List.{List, [], ◌∷◌}
use Rattle.model.specs.Lists.{upto, every, keep}
use Rattle.laws.specs.Sums.Indicators.{T_true, not_T_false, both_left, both_right}
use Rattle.laws.specs.Sums.Lists.{All, none, also, all_mono, all_upto, all_below}

-- ---- every entry of a list

module _ {A : Type 0} where
  pub every_all : {p : A → Bool} {xs : List A} → All (λ x. p x ≡ true) xs → every p xs ≡ true
  unfolding every
  every_all none = refl
  every_all (also e es) = ap₂ (λ (a b : Bool). a && b) e (every_all es)

  pub all_every : (p : A → Bool) (xs : List A) → every p xs ≡ true → All (λ x. p x ≡ true) xs
  unfolding every
  all_every p [] e = none
  all_every p (x ∷ xs) e = also (both_left (p x) (every p xs) e) (all_every p xs (both_right (p x) (every p xs) e))

-- ---- every entry from a place on, one after the other

-- those before place i have passed
pub record PassedUpTo {A : Type 0} (p : A → Bool) (xs : List A) (from i : ℕ) : Type 0 where
  pub rest : every p (drop from xs) ≡ every p (drop i xs)

module _ {A : Type 0} {p : A → Bool} {xs : List A} {i : ℕ} where
  pub passed_start : PassedUpTo p xs i i
  passed_start = record { rest = refl }

  module _ {from : ℕ} (u : PassedUpTo p xs from i) where
    module _ (d : A) (h : i < length xs) where
      -- what the next entry says
      told : {b : Bool} → p (get_or xs i d) ≡ b → every p (drop from xs) ≡ (b && every p (drop (suc i) xs))
      unfolding every
      told e = u.rest ∙ ap (every p) (drop-cons xs i d h) ∙ ap (λ (t : Bool). t && every p (drop (suc i) xs)) e

      pub passed_next : p (get_or xs i d) ≡ true → PassedUpTo p xs from (i + 1)
      passed_next e = record { rest = told e ∙ ap (λ (k : ℕ). every p (drop k xs)) (sym (add-one i)) }

      pub passed_not : p (get_or xs i d) ≡ false → every p (drop from xs) ≡ false
      passed_not e = told e

    pub passed_end : length xs ≤ i → every p (drop from xs) ≡ true
    unfolding every
    passed_end h = u.rest ∙ ap (every p) (drop_of_length-le xs h)

-- ---- every number below n

-- every number below n passes exactly if each does
pub every_upto : (p : ℕ → Bool) (n : ℕ) → T (every p (upto n)) → (i : ℕ) → i < n → T (p i)
every_upto p n t i h = subst T (sym (all_below n (all_every p (upto n) (T_true (every p (upto n)) t)) i h)) tt

pub upto_every : (p : ℕ → Bool) (n : ℕ) → ((i : ℕ) → i < n → T (p i)) → T (every p (upto n))
upto_every p n h = subst T (sym (every_all (all_mono (all_upto n) (λ i l. T_true (p i) (h i l))))) tt

pub upto_fails : (p : ℕ → Bool) (n i : ℕ) → i < n → p i ≡ false → every p (upto n) ≡ false
upto_fails p n i h e = not_T_false (every p (upto n)) (λ t. subst T e (every_upto p n t i h))

-- a test of some numbers is a test that the others pass anyway
pub every_keep : {A : Type 0} (p q : A → Bool) (xs : List A) → every p (keep q xs) ≡ every (λ x. cond (q x) (p x) true) xs
unfolding every keep
every_keep p q [] = refl
every_keep p q (x ∷ xs) = by_test (q x) (every_keep p q xs)
  where
    by_test : (b : Bool) → every p (keep q xs) ≡ every (λ y. cond (q y) (p y) true) xs
        → every p (cond b (x ∷ keep q xs) (keep q xs)) ≡ (cond b (p x) true && every (λ y. cond (q y) (p y) true) xs)
    by_test true e = ap (λ (b : Bool). p x && b) e
    by_test false e = e
