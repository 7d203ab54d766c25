-- A chord between two places of an order crosses the edges from strictly between its places to beyond them; an edge that stands there crosses just those. How
-- many these are, from one place to the next. Over any weight of the edges that is symmetric and 0 from a vertex to itself.
use Prim.Native.Nat.{ℕ, suc, ◌+◌, ◌-◌, ◌<◌}
use Rattle.std.proofs.Common.{◌∙◌, get_or-drop}
use native.Mathlib.Omega.{arith}
use Rattle.std.specs.Prelude.{◌≡◌, List, [], ◌∷◌, ◌++◌, drop}
use Rattle.std.proofs.Math.Path.{ap}
use Rattle.std.proofs.Math.ListN.{take, length-drop}
use Rattle.std.proofs.Math.Seq.{take-suc}
use Rattle.model.specs.Lists.{sum_over}
use Rattle.laws.specs.Sums.Lists.{All, all_append, all_take, all_drop, all_places, sum_over_add, sum_over_append, sum_over_last}
use Rattle.laws.specs.Orders.Permutations.{at, Permutation, at_lt, from_place}

-- the weight of the edges from vertices of one list to vertices of another
unfoldable pub joining : (ℕ → ℕ → ℕ) → List ℕ → List ℕ → ℕ
joining W xs ys = sum_over (λ a. sum_over (W a) ys) xs

-- the vertices strictly between places i and k, and those beyond them
unfoldable pub inside : List ℕ → ℕ → ℕ → List ℕ
inside o i k = take (k - suc i) (drop (suc i) o)

abbrev pub beyond : List ℕ → ℕ → ℕ → List ℕ
beyond o i k = take i o ++ drop (suc k) o

-- the edges that a chord between places i and k crosses
unfoldable pub chord_crossings : (ℕ → ℕ → ℕ) → List ℕ → ℕ → ℕ → ℕ
chord_crossings W o i k = joining W (inside o i k) (beyond o i k)

-- ---- one vertex more in either list

module _ (W : ℕ → ℕ → ℕ) (v : ℕ) where
  pub joining_last : (xs ys : List ℕ) → joining W (xs ++ (v ∷ [])) ys ≡ joining W xs ys + sum_over (W v) ys
  unfolding joining
  joining_last xs ys = sum_over_last v (λ a. sum_over (W a) ys) xs

  -- a vertex taken out of a list
  pub sum_over_out : (f : ℕ → ℕ) (ys zs : List ℕ) → sum_over f (ys ++ (v ∷ zs)) ≡ sum_over f (ys ++ zs) + f v
  unfolding sum_over
  sum_over_out f ys zs = rw (sum_over_append f ys (v ∷ zs), sum_over_append f ys zs) (omega arith)

  pub joining_out : (xs ys zs : List ℕ) → joining W xs (ys ++ (v ∷ zs)) ≡ joining W xs (ys ++ zs) + sum_over (λ a. W a v) xs
  unfolding joining
  joining_out xs ys zs =
      (λ i. sum_over (λ a. sum_over_out (W a) ys zs i) xs) ∙ sum_over_add (λ a. sum_over (W a) (ys ++ zs)) (λ a. W a v) xs

-- ---- from one place to the next

module _ {n : ℕ} {o : List ℕ} (perm : Permutation n o) (i : ℕ) where
  pub all_below : All (λ a. a < n) o
  all_below = all_places o (λ j l. at_lt perm j (rw perm.size at l))

  -- both hold vertices
  pub inside_below : (k : ℕ) → All (λ a. a < n) (inside o i k)
  unfolding inside
  inside_below k = all_take (k - suc i) (all_drop (suc i) all_below)

  pub beyond_below : (k : ℕ) → All (λ a. a < n) (beyond o i k)
  beyond_below k = all_append (all_take i all_below) (all_drop (suc k) all_below)

  -- place i and the next, and one place further
  pub inside_none : inside o i (suc i) ≡ []
  unfolding inside
  inside_none = let none : suc i - suc i ≡ 0 = omega arith in ap (λ (k : ℕ). take k (drop (suc i) o)) none

  pub inside_next : (k : ℕ) → i < k → k < n → inside o i (suc k) ≡ inside o i k ++ (at o k ∷ [])
  unfolding inside
  inside_next k a b =
      let more : suc k - suc i ≡ suc (k - suc i) = omega arith in
      let last : suc i + (k - suc i) ≡ k = omega arith in
      ap (λ (m : ℕ). take m (drop (suc i) o)) more
      ∙ take-suc (drop (suc i) o) (k - suc i) 0 (omega (arith, length-drop (suc i) o, perm.size))
      ∙ ap (λ (v : ℕ). inside o i k ++ (v ∷ [])) (get_or-drop (suc i) o (k - suc i) 0 ∙ ap (at o) last)

  module _ (W : ℕ → ℕ → ℕ) where
    -- a chord to the next place crosses none
    pub chord_first : chord_crossings W o i (suc i) ≡ 0
    unfolding chord_crossings joining sum_over
    chord_first = rw inside_none

    -- the edges from between places i and k to before i or to place k and behind it: those that the chord crosses, and those that end at k
    pub chord_closed : (k : ℕ) → k < n
        → joining W (inside o i k) (take i o ++ drop k o) ≡ chord_crossings W o i k + sum_over (λ a. W a (at o k)) (inside o i k)
    unfolding chord_crossings
    chord_closed k h = rw (from_place perm k h) (joining_out W (at o k) (inside o i k) (take i o) (drop (suc k) o))

    -- one place further: those that the chord crosses, and those that leave from k
    pub chord_opened : (k : ℕ) → i < k → k < n
        → joining W (inside o i (suc k)) (take i o ++ drop (suc k) o) ≡ chord_crossings W o i k + sum_over (W (at o k)) (beyond o i k)
    unfolding chord_crossings
    chord_opened k a b = rw (inside_next k a b) (joining_last W (at o k) (inside o i k) (beyond o i k))
