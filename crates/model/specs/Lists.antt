-- The tests and lists that the other definitions are written with.
use Rattle.std.specs.Prelude.{ℕ, zero, suc, ◌+◌, Bool, true, false, not, cond, ◌&&◌, ◌||◌, List, [], ◌∷◌, ◌++◌, eqb}

-- a test as a number: 1 where it passes
unfoldable pub one : Bool → ℕ
one true = 1
one false = 0

-- 0, 1, 2 and so on below n
unfoldable pub upto : ℕ → List ℕ
upto zero = []
upto (suc n) = upto n ++ (n ∷ [])

module _ {A : Type 0} where
  -- does each entry pass?
  unfoldable pub every : (A → Bool) → List A → Bool
  every p [] = true
  every p (x ∷ xs) = p x && every p xs

  -- does some entry pass?
  unfoldable pub any : (A → Bool) → List A → Bool
  any p [] = false
  any p (x ∷ xs) = p x || any p xs

  -- the entries that pass, in their sequence
  unfoldable pub keep : (A → Bool) → List A → List A
  keep p [] = []
  keep p (x ∷ xs) = cond (p x) (x ∷ keep p xs) (keep p xs)

  -- the first entry that passes, or d
  unfoldable pub first_with : (A → Bool) → A → List A → A
  first_with p d [] = d
  first_with p d (x ∷ xs) = cond (p x) x (first_with p d xs)

  -- the sum of f over the entries
  unfoldable pub sum_over : (A → ℕ) → List A → ℕ
  sum_over f [] = 0
  sum_over f (x ∷ xs) = f x + sum_over f xs

  -- the sum of f over each two entries, the earlier one first
  unfoldable pub sum_pairs : (A → A → ℕ) → List A → ℕ
  sum_pairs f [] = 0
  sum_pairs f (x ∷ xs) = sum_over (f x) xs + sum_pairs f xs

  -- each entry has the property P
  pub data All (P : A → Type 0) : List A → Type 0 where
    none : All P []
    also : {x : A} {xs : List A} → P x → All P xs → All P (x ∷ xs)

  -- are no two entries the same, by the test given?
  unfoldable pub no_repeats : (A → A → Bool) → List A → Bool
  no_repeats same [] = true
  no_repeats same (x ∷ xs) = not (any (same x) xs) && no_repeats same xs

-- is v an entry?
unfoldable pub member : ℕ → List ℕ → Bool
member v xs = any (eqb v) xs

-- how often v is an entry
unfoldable pub occurrences : ℕ → List ℕ → ℕ
occurrences v xs = sum_over (λ x. one (eqb v x)) xs

-- the place of v in the list, counted from 0
unfoldable pub place : List ℕ → ℕ → ℕ
place [] v = 0
place (x ∷ xs) v = cond (eqb v x) 0 (suc (place xs v))
