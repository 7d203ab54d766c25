-- Lists of which some entries are kept: what they and the whole list have in common.
use Rattle.std.specs.Prelude.{ℕ, ◌+◌, ◌*◌, ◌≡◌, Bool, cond, ◌&&◌, ◌||◌, eqb}
use Rattle.std.proofs.Common.{arith, sym, ap, ◌∙◌, eqb-true}
use Rattle.std.proofs.Math.Path.{refl}
use Rattle.std.proofs.Math.Bool.{true, false, and-false}
use mathlib.Core.List.{List, [], ◌∷◌}
use Rattle.model.specs.Lists.{one, any, keep, sum_over, sum_pairs, member}
use Rattle.laws.specs.Sums.Lists.{All, sum_over_ext, sum_over_keep, sum_over_scale, sum_pairs_ext}

-- a term that is 0 where a test fails has the test as a factor already
factor : (b : Bool) (c : ℕ) → (b ≡ false → c ≡ 0) → one b * c ≡ c
unfolding one
factor true c h = omega arith
factor false c h = omega (arith, h refl)

module _ {A : Type 0} where
  -- sums of terms that are 0 where an entry does not pass
  pub sum_over_kept : {P : A → Type 0} (p : A → Bool) (f : A → ℕ) {xs : List A} → All P xs → ((x : A) → P x → p x ≡ false → f x ≡ 0)
      → sum_over f xs ≡ sum_over f (keep p xs)
  sum_over_kept p f {xs} all zero =
      sym (sum_over_keep f p xs ∙ sum_over_ext (λ x. one (p x) * f x) f all (λ x q. factor (p x) (f x) (zero x q)))

  sum_pairs_keep : (p : A → Bool) (f : A → A → ℕ) (xs : List A) → sum_pairs f (keep p xs) ≡ sum_pairs (λ x y. one (p x) * (one (p y) * f x y)) xs
  unfolding sum_pairs keep one
  sum_pairs_keep p f [] = refl
  sum_pairs_keep p f (x ∷ xs) = by_test (p x) (sum_pairs_keep p f xs)
    where
      by_test : (b : Bool) → sum_pairs f (keep p xs) ≡ sum_pairs (λ x y. one (p x) * (one (p y) * f x y)) xs
          → sum_pairs f (cond b (x ∷ keep p xs) (keep p xs))
          ≡ sum_over (λ y. one b * (one (p y) * f x y)) xs + sum_pairs (λ x y. one (p x) * (one (p y) * f x y)) xs
      by_test true e = omega (arith, sum_over_keep (f x) p xs, sum_over_scale 1 (λ y. one (p y) * f x y) xs)
      by_test false e = omega (arith, sum_over_scale 0 (λ y. one (p y) * f x y) xs)

  pub sum_pairs_kept : {P : A → Type 0} (p : A → Bool) (f : A → A → ℕ) {xs : List A} → All P xs
      → ((x y : A) → P x → P y → p x ≡ false → f x y ≡ 0) → ((x y : A) → P x → P y → p y ≡ false → f x y ≡ 0)
      → sum_pairs f xs ≡ sum_pairs f (keep p xs)
  sum_pairs_kept p f {xs} all first second =
      sym (sum_pairs_keep p f xs
      ∙ sum_pairs_ext (λ x y. one (p x) * (one (p y) * f x y)) f all
      (λ x y q r. ap (λ (c : ℕ). one (p x) * c) (factor (p y) (f x y) (second x y q r)) ∙ factor (p x) (f x y) (first x y q r)))

-- the entries that are kept are those that pass
pub member_keep : (q : ℕ → Bool) (v : ℕ) (xs : List ℕ) → member v (keep q xs) ≡ (q v && member v xs)
unfolding member any keep
member_keep q v [] = sym (and-false (q v))
member_keep q v (x ∷ xs) = by_test (q x) (eqb v x) refl refl (member_keep q v xs)
  where
    by_test : (k t : Bool) → q x ≡ k → eqb v x ≡ t → any (eqb v) (keep q xs) ≡ (q v && any (eqb v) xs)
        → any (eqb v) (cond k (x ∷ keep q xs) (keep q xs)) ≡ (q v && (t || any (eqb v) xs))
    by_test true true e same rest = rw (same, ap q (eqb-true v x same) ∙ e)
    by_test true false e same rest = rw same rest
    by_test false true e same rest = rest ∙ rw (ap q (eqb-true v x same) ∙ e)
    by_test false false e same rest = rest
