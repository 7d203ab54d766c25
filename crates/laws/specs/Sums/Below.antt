-- A test of each number below n, one after the other, left where one fails or not; and a test of the entries of a list that is made of another.
use Rattle.std.specs.Prelude.{ℕ, zero, suc, ◌+◌, ◌≤◌, ◌<◌, ◌≡◌, Bool, ◌&&◌, T}
use Rattle.std.proofs.Common.{not-suc-le-zero, add-one, arith, sym, ap₂, ◌∙◌, subst, below_more}
use Rattle.std.proofs.Math.Decide.{dec_lt}
use Rattle.std.proofs.Math.Path.{refl, ap}
use Rattle.std.proofs.Math.Bool.{true, false}
use mathlib.Core.List.{List, [], ◌∷◌, ◌++◌, map, flat_map}
use Rattle.model.specs.Lists.{upto, every}
use Rattle.laws.specs.Sums.Indicators.{T_true, bool_ext, and_intro, and_left, and_right}
use Rattle.laws.specs.Sums.Every.{every_upto, upto_every, upto_fails}

-- every number below k has passed
pub record PassedBelow (p : ℕ → Bool) (n k : ℕ) : Type 0 where
  pub inside : k ≤ n
  pub passes : (i : ℕ) → i < k → p i ≡ true

pub below_start : {p : ℕ → Bool} {n : ℕ} → PassedBelow p n 0
below_start = record { inside = omega arith; passes = λ i l. absurd (not-suc-le-zero l) }

module _ {p : ℕ → Bool} {n k : ℕ} (s : PassedBelow p n k) where
  pub below_all : n ≤ k → true ≡ every p (upto n)
  below_all l = sym (T_true (every p (upto n)) (upto_every p n (λ i b. subst T (sym (s.passes i (omega arith))) tt)))

  -- the test of k
  module _ (l : k < n) {t : Bool} (e : t ≡ p k) where
    pub below_next : t ≡ true → PassedBelow p n (k + 1)
    below_next h = record { inside = omega arith; passes = below_more (λ i. p i ≡ true) k s.passes (sym e ∙ h) }

    pub below_fails : t ≡ false → false ≡ every p (upto n)
    below_fails h = sym (upto_fails p n k l (sym e ∙ h))

-- ---- all tests, and one answer in the end

every_last : (p : ℕ → Bool) (n : ℕ) → every p (upto (suc n)) ≡ (every p (upto n) && p n)
every_last p n =
    bool_ext (every p (upto (suc n))) (every p (upto n) && p n)
    (λ t. and_intro (every p (upto n)) (p n) (upto_every p n (λ i l. every_upto p (suc n) t i (omega arith))) (every_upto p (suc n) t n (omega arith)))
    (λ t. upto_every p (suc n)
    (λ i l. elim (dec_lt i n) [
      | yes m ↦ every_upto p n (and_left (every p (upto n)) (p n) t) i m
      | no m ↦ let e : n ≡ i = omega arith in subst (λ (x : ℕ). T (p x)) e (and_right (every p (upto n)) (p n) t)
    ]))

-- told: whether every number below k passes
pub record ToldBelow (p : ℕ → Bool) (n : ℕ) (told : Bool) (k : ℕ) : Type 0 where
  pub inside : k ≤ n
  pub so_far : told ≡ every p (upto k)

module _ {p : ℕ → Bool} {n : ℕ} where
  pub told_start : ToldBelow p n true 0
  unfolding every upto
  told_start = record { inside = omega arith; so_far = refl }

  module _ {told : Bool} {k : ℕ} (s : ToldBelow p n told k) where
    pub told_next : k < n → {next : Bool} → next ≡ (told && p k) → ToldBelow p n next (k + 1)
    told_next h e =
        record {
          inside = omega arith;
          so_far = e ∙ ap (λ (b : Bool). b && p k) s.so_far ∙ sym (every_last p k) ∙ ap (λ (x : ℕ). every p (upto x)) (sym (add-one k));
        }

    pub told_end : n ≤ k → told ≡ every p (upto n)
    told_end h = let e : k ≡ n = omega (arith, s.inside) in s.so_far ∙ ap (λ (x : ℕ). every p (upto x)) e

-- ---- lists made of others

module _ {A : Type 0} where
  pub every_append : (p : A → Bool) (xs ys : List A) → every p (xs ++ ys) ≡ (every p xs && every p ys)
  unfolding every
  every_append p [] ys = refl
  every_append p (x ∷ xs) ys = ap (λ (b : Bool). p x && b) (every_append p xs ys) ∙ and_assoc (p x) (every p xs) (every p ys)
    where
      and_assoc : (a b c : Bool) → (a && (b && c)) ≡ ((a && b) && c)
      and_assoc true b c = refl
      and_assoc false b c = refl

pub every_same : (p q : ℕ → Bool) (n : ℕ) → ((i : ℕ) → i < n → p i ≡ q i) → every p (upto n) ≡ every q (upto n)
unfolding upto every
every_same p q zero e = refl
every_same p q (suc n) e =
    every_append p (upto n) (n ∷ [])
    ∙ ap₂ (λ (a b : Bool). a && (b && true)) (every_same p q n (λ i l. e i (omega arith))) (e n (omega arith))
    ∙ sym (every_append q (upto n) (n ∷ []))

module _ {A B : Type 0} where
  pub every_map : (p : B → Bool) (f : A → B) (xs : List A) → every p (map f xs) ≡ every (λ x. p (f x)) xs
  unfolding every
  every_map p f [] = refl
  every_map p f (x ∷ xs) = ap (λ (b : Bool). p (f x) && b) (every_map p f xs)

  pub every_flat_map : (p : B → Bool) (g : A → List B) (xs : List A) → every p (flat_map g xs) ≡ every (λ x. every p (g x)) xs
  unfolding every flat_map
  every_flat_map p g [] = refl
  every_flat_map p g (x ∷ xs) = every_append p (g x) (flat_map g xs) ∙ ap (λ (b : Bool). every p (g x) && b) (every_flat_map p g xs)
