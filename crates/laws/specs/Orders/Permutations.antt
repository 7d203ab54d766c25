-- A list that holds each vertex once: places and vertices are inverse, and a sum over vertices is the sum over places.
use Rattle.std.specs.Prelude.{ℕ, zero, suc, ◌+◌, ◌*◌, ◌-◌, ◌≤◌, ◌<◌, ◌≡◌, refl, Bool, true, false, cond, ◌||◌, List, [], ◌∷◌, ◌++◌, length, get_or, take, drop, eqb, ltb}
use Rattle.std.proofs.Common.{zero-le, suc-le-suc, zero-add, mul-one, not-suc-le-zero, le_of_suc-le-suc, arith, sym, ap, ◌∙◌, length-drop, drop-cons, get_or-drop, eq-eqb, eqb-true, lt-ltb}
use Rattle.model.specs.Lists.{one, upto, any, sum_over, member, occurrences, place}
use Rattle.laws.specs.Sums.Indicators.{less, same, more, order, one_eq, one_ne, one_lt, one_ge, one_le, one_sym}
use Rattle.laws.specs.Sums.Ranges.{sum, sum_ext, sum_zero, sum_scale, sum_const, sum_swap, sum_at, sum_at_right, sum_below, sum_above, all_one}
use Rattle.laws.specs.Sums.Lists.{sum_over_append, sum_over_last, sum_over_split, sum_over_places, sum_over_take, sum_over_drop, sum_over_upto, length_upto}

-- the vertex at a place
abbrev pub at : List ℕ → ℕ → ℕ
at o i = get_or o i 0

-- o holds n vertices, each below n once
pub record Permutation (n : ℕ) (o : List ℕ) : Type 0 where
  pub size : length o ≡ n
  pub once : (v : ℕ) → v < n → occurrences v o ≡ 1

-- how often v occurs, place by place
pub occurrences_places : (v : ℕ) (o : List ℕ) → occurrences v o ≡ sum (length o) (λ i. one (eqb v (at o i)))
unfolding occurrences
occurrences_places v o = sum_over_places (λ x. one (eqb v x)) 0 o

pub occurrences_nil : (v : ℕ) → occurrences v [] ≡ 0
unfolding occurrences sum_over
occurrences_nil v = refl

pub occurrences_cons : (v x : ℕ) (xs : List ℕ) → occurrences v (x ∷ xs) ≡ one (eqb v x) + occurrences v xs
unfolding occurrences sum_over
occurrences_cons v x xs = refl

-- in lists put together, and before a place, at it and behind it
pub occurrences_append : (v : ℕ) (xs ys : List ℕ) → occurrences v (xs ++ ys) ≡ occurrences v xs + occurrences v ys
unfolding occurrences
occurrences_append v xs ys = sum_over_append (λ x. one (eqb v x)) xs ys

pub occurrences_last : (v x : ℕ) (xs : List ℕ) → occurrences v (xs ++ (x ∷ [])) ≡ occurrences v xs + one (eqb v x)
unfolding occurrences
occurrences_last v x xs = sum_over_last x (λ y. one (eqb v y)) xs

pub occurrences_split : (v : ℕ) (o : List ℕ) (j : ℕ) → j < length o
    → occurrences v o ≡ occurrences v (take j o) + (one (eqb v (at o j)) + occurrences v (drop (suc j) o))
unfolding occurrences
occurrences_split v o j h = sum_over_split (λ x. one (eqb v x)) o j h

-- what occurs has a place, and stands there
pub place_lt : (o : List ℕ) (v : ℕ) → 0 < occurrences v o → place o v < length o
unfolding place occurrences sum_over one
place_lt [] v h = absurd (not-suc-le-zero h)
place_lt (x ∷ xs) v h = by_test (eqb v x) h (place_lt xs v)
  where
    by_test : (b : Bool) → 0 < one b + sum_over (λ y. one (eqb v y)) xs → (0 < sum_over (λ y. one (eqb v y)) xs → place xs v < length xs)
        → cond b 0 (suc (place xs v)) < suc (length xs)
    by_test true k r = suc-le-suc zero-le
    by_test false k r = suc-le-suc (r (omega arith))

pub at_place : (o : List ℕ) (v : ℕ) → 0 < occurrences v o → at o (place o v) ≡ v
unfolding place occurrences sum_over one
at_place [] v h = absurd (not-suc-le-zero h)
at_place (x ∷ xs) v h = by_test (eqb v x) (λ e. sym (eqb-true v x e)) h (at_place xs v)
  where
    by_test : (b : Bool) → (b ≡ true → x ≡ v) → 0 < one b + sum_over (λ y. one (eqb v y)) xs
        → (0 < sum_over (λ y. one (eqb v y)) xs → at xs (place xs v) ≡ v)
        → at (x ∷ xs) (cond b 0 (suc (place xs v))) ≡ v
    by_test true e k r = e refl
    by_test false e k r = r (omega arith)

-- what stands at a place occurs
pub occurs_at : (o : List ℕ) (i : ℕ) → i < length o → 0 < occurrences (at o i) o
unfolding occurrences sum_over
occurs_at [] i h = absurd (not-suc-le-zero h)
occurs_at (x ∷ xs) zero h = rw (one_eq x x refl) (omega arith)
occurs_at (x ∷ xs) (suc i) h = omega (arith, occurs_at xs i (le_of_suc-le-suc h))

-- what occurs once has one place
pub place_at_lem : (o : List ℕ) (i : ℕ) → i < length o → occurrences (at o i) o ≡ 1 → place o (at o i) ≡ i
unfolding place occurrences sum_over one
place_at_lem [] i h e = absurd (not-suc-le-zero h)
place_at_lem (x ∷ xs) zero h e = rw (eq-eqb x x refl)
place_at_lem (x ∷ xs) (suc i) h e = by_test (eqb (at xs i) x) e (occurs_at xs i (le_of_suc-le-suc h)) (place_at_lem xs i (le_of_suc-le-suc h))
  where
    by_test : (b : Bool) → one b + sum_over (λ y. one (eqb (at xs i) y)) xs ≡ 1 → 0 < sum_over (λ y. one (eqb (at xs i) y)) xs
        → (sum_over (λ y. one (eqb (at xs i) y)) xs ≡ 1 → place xs (at xs i) ≡ i)
        → cond b 0 (suc (place xs (at xs i))) ≡ suc i
    by_test true k p r = absurd (omega arith)
    by_test false k p r = ap suc (r (omega arith))

-- what is an entry occurs
pub member_occurs : (v : ℕ) (o : List ℕ) → member v o ≡ ltb 0 (occurrences v o)
unfolding member any occurrences sum_over one
member_occurs v [] = refl
member_occurs v (x ∷ xs) = by_test (eqb v x) (member_occurs v xs)
  where
    by_test : (b : Bool) → any (eqb v) xs ≡ ltb 0 (sum_over (λ y. one (eqb v y)) xs)
        → (b || any (eqb v) xs) ≡ ltb 0 (one b + sum_over (λ y. one (eqb v y)) xs)
    by_test true e = sym (lt-ltb 0 (1 + sum_over (λ y. one (eqb v y)) xs) (omega arith))
    by_test false e = e ∙ ap (ltb 0) (sym (zero-add (sum_over (λ y. one (eqb v y)) xs)))

-- the numbers below n that are k: one if k is below n
pub sum_hits : (n k : ℕ) → sum n (λ v. one (eqb v k)) ≡ one (ltb k n)
sum_hits n k =
    elim (order k n) [
      | less l ↦ sum_ext n (λ v. one (eqb v k)) (λ v. one (eqb k v) * 1) (λ v b. one_sym v k ∙ sym (mul-one (one (eqb k v)))) ∙ sum_at n k (λ v. 1) l
          ∙ sym (one_lt k n l)
      | same e ↦ none_hit (omega arith)
      | more l ↦ none_hit (omega arith)
    ]
  where
    none_hit : n ≤ k → sum n (λ v. one (eqb v k)) ≡ one (ltb k n)
    none_hit l = sum_zero n (λ v. one (eqb v k)) (λ v b. one_ne v k (λ e. omega arith)) ∙ sym (one_ge k n l)

-- the numbers below n, rising, are an order
pub upto_permutation : (n : ℕ) → Permutation n (upto n)
unfolding occurrences
upto_permutation n =
    record {
      size = length_upto n;
      once = λ v h.
          sum_over_upto (λ i. one (eqb v i)) n
          ∙ sum_ext n (λ i. one (eqb v i)) (λ i. one (eqb i v)) (λ i l. one_sym v i)
          ∙ sum_hits n v
          ∙ one_lt v n h;
    }

-- the numbers below n occur as often as there are places that hold one
pub occurrences_total : (n : ℕ) (o : List ℕ) → sum n (λ v. occurrences v o) ≡ sum (length o) (λ i. one (ltb (at o i) n))
occurrences_total n o =
    sum_ext n (λ v. occurrences v o) (λ v. sum (length o) (λ i. one (eqb v (at o i)))) (λ v h. occurrences_places v o)
    ∙ sum_swap n (length o) (λ v i. one (eqb v (at o i)))
    ∙ sum_ext (length o) (λ i. sum n (λ v. one (eqb v (at o i)))) (λ i. one (ltb (at o i) n)) (λ i h. sum_hits n (at o i))

module _ {n : ℕ} {o : List ℕ} (perm : Permutation n o) where
  -- how often v occurs, over n places
  pub hits : (v : ℕ) → v < n → sum n (λ i. one (eqb v (at o i))) ≡ 1
  hits v h = rw perm.size at (sym (occurrences_places v o)) ∙ perm.once v h

  -- the vertices at the places are below n: n places hold n different ones
  pub at_lt : (i : ℕ) → i < n → at o i < n
  at_lt i h = below (all_one n (λ j. one (ltb (at o j) n)) (λ j l. one_le (ltb (at o j) n)) total i h)
    where
      total : sum n (λ j. one (ltb (at o j) n)) ≡ n
      total =
          sum_ext n (λ j. one (ltb (at o j) n)) (λ j. sum n (λ v. one (eqb v (at o j)))) (λ j l. sym (sum_hits n (at o j)))
          ∙ sum_swap n n (λ j v. one (eqb v (at o j)))
          ∙ sum_ext n (λ v. sum n (λ j. one (eqb v (at o j)))) (λ v. 1) hits
          ∙ sum_const n 1 ∙ mul-one n

      below : one (ltb (at o i) n) ≡ 1 → at o i < n
      below e = elim (order (at o i) n) [
        | less l ↦ l
        | same k ↦ absurd (omega (arith, one_ge (at o i) n (omega arith)))
        | more k ↦ absurd
            (omega (arith, one_ge (at o i) n (omega arith)))
      ]

  -- place and vertex are inverse
  pub place_of_at : (i : ℕ) → i < n → place o (at o i) ≡ i
  place_of_at i h = place_at_lem o i (rw perm.size h) (perm.once (at o i) (at_lt i h))

  pub at_of_place : (v : ℕ) → v < n → at o (place o v) ≡ v
  at_of_place v h = at_place o v (omega (arith, perm.once v h))

  pub place_below : (v : ℕ) → v < n → place o v < n
  place_below v h = rw perm.size at (place_lt o v (omega (arith, perm.once v h)))

  -- a sum over vertices is the sum over places
  pub sum_vertices : (f : ℕ → ℕ) → sum n f ≡ sum n (λ i. f (at o i))
  sum_vertices f =
      sum_ext n f (λ v. sum n (λ i. f v * one (eqb v (at o i)))) spread
      ∙ sum_swap n n (λ v i. f v * one (eqb v (at o i)))
      ∙ sum_ext n (λ i. sum n (λ v. f v * one (eqb v (at o i)))) (λ i. f (at o i)) gather
    where
      spread : (v : ℕ) → v < n → f v ≡ sum n (λ i. f v * one (eqb v (at o i)))
      spread v h = rw (sum_scale n (f v) (λ i. one (eqb v (at o i))), hits v h) (sym (mul-one (f v)))

      gather : (i : ℕ) → i < n → sum n (λ v. f v * one (eqb v (at o i))) ≡ f (at o i)
      gather i h = sum_at_right n (at o i) f (at_lt i h)

  -- over the entries of the list
  pub order_sum : (f : ℕ → ℕ) → sum_over f (upto n) ≡ sum_over f o
  order_sum f = sum_over_upto f n ∙ sum_vertices f ∙ sym (sum_over_places f 0 o ∙ ap (λ (k : ℕ). sum k (λ i. f (at o i))) perm.size)

  -- over those before a place, behind one, and strictly between two
  pub sum_before : (f : ℕ → ℕ) (j : ℕ) → j ≤ n → sum_over f (take j o) ≡ sum n (λ i. one (ltb i j) * f (at o i))
  sum_before f j h = sum_over_take f o j (omega (arith, perm.size)) ∙ sym (sum_below n j (λ i. f (at o i)) h)

  pub sum_behind : (f : ℕ → ℕ) (k : ℕ) → k < n → sum_over f (drop (suc k) o) ≡ sum n (λ l. one (ltb k l) * f (at o l))
  sum_behind f k h =
      sum_over_drop f o (suc k)
      ∙ ap (λ (m : ℕ). sum (m - suc k) (λ i. f (at o (suc k + i)))) perm.size
      ∙ sym (sum_above n k (λ l. f (at o l)) h)

  pub sum_between : (f : ℕ → ℕ) (i k : ℕ) → i < k → k ≤ n
      → sum_over f (take (k - suc i) (drop (suc i) o)) ≡ sum n (λ a. one (ltb i a) * (one (ltb a k) * f (at o a)))
  sum_between f i k a b =
      sum_over_take f (drop (suc i) o) (k - suc i) (omega (arith, length-drop (suc i) o, perm.size))
      ∙ sum_ext (k - suc i) (λ j. f (at (drop (suc i) o) j)) behind (λ j l. ap f (get_or-drop (suc i) o j 0))
      ∙ sym
      (sum_above n i (λ j. one (ltb j k) * f (at o j)) (omega arith)
      ∙ sum_ext (n - suc i) (λ j. one (ltb (suc i + j) k) * behind j) (λ j. one (ltb j (k - suc i)) * behind j)
      (λ j l. ap (λ (x : ℕ). x * behind j) (shifted j))
      ∙ sum_below (n - suc i) (k - suc i) behind (omega arith))
    where
      behind : ℕ → ℕ
      behind j = f (at o (suc i + j))

      shifted : (j : ℕ) → one (ltb (suc i + j) k) ≡ one (ltb j (k - suc i))
      shifted j =
          elim (order (suc i + j) k) [
            | less l ↦ one_lt (suc i + j) k l ∙ sym (one_lt j (k - suc i) (omega arith))
            | same e ↦ one_ge (suc i + j) k (omega arith) ∙ sym (one_ge j (k - suc i) (omega arith))
            | more l ↦ one_ge (suc i + j) k (omega arith) ∙ sym (one_ge j (k - suc i) (omega arith))
          ]

  -- what stands from a place on
  pub from_place : (k : ℕ) → k < n → drop k o ≡ at o k ∷ drop (suc k) o
  from_place k h = drop-cons o k 0 (omega (arith, perm.size))

  pub alone_before : (j : ℕ) → j < n → occurrences (at o j) (take j o) ≡ 0
  alone_before j h = omega (arith, occurrences_split (at o j) o j (rw perm.size h), perm.once (at o j) (at_lt j h), one_eq (at o j) (at o j) refl)

  pub alone_after : (j : ℕ) → j < n → occurrences (at o j) (drop (suc j) o) ≡ 0
  alone_after j h = omega (arith, occurrences_split (at o j) o j (rw perm.size h), perm.once (at o j) (at_lt j h), one_eq (at o j) (at o j) refl)

  -- no number from n on occurs
  pub none_beyond : (v : ℕ) → n ≤ v → occurrences v o ≡ 0
  none_beyond v h =
      occurrences_places v o
      ∙ sum_zero (length o) (λ i. one (eqb v (at o i))) (λ i l. one_ne v (at o i) (λ e. omega (arith, at_lt i (rw perm.size at l))))
