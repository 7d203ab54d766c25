-- Greedy append's list of placed vertices: none stands in it twice. And the vertices that are not placed yet, of which the next one is taken.
use Prim.Native.Nat.{ℕ, zero, suc, ◌+◌, ◌*◌, ◌-◌, ◌≤◌, ◌<◌}
use Rattle.std.proofs.Math.Nat.{mul-one, one-mul}
use Rattle.std.proofs.Common.{not-suc-le-zero, arith, ◌∙◌}
use Rattle.std.proofs.Math.Decide.{ℕ_discrete}
use Rattle.std.specs.Prelude.{◌≡◌, Bool, cond, ◌&&◌, ◌||◌, List, [], ◌∷◌, ◌++◌, eqb, ltb}
use Rattle.std.proofs.Math.Path.{refl, sym, ap, ap₂}
use Rattle.std.proofs.Math.Bool.{true, false, not, or_comm, or-false}
use Rattle.std.proofs.Math.ListN.{length}
use borrow.Author.Tests.{eq-eqb, ltb-false, le-ltb, not-true}
use Rattle.model.specs.Lists.{one, upto, any, keep, sum_over, member, occurrences}
use Rattle.model.specs.GreedyAppend.{unplaced, waiting, preferred, best_of, next_vertex}
use Rattle.laws.specs.Sums.Indicators.{one_eq, one_ne, one_lt, one_le, eqb_swap}
use Rattle.laws.specs.Sums.Ranges.{sum, sum_ext, sum_add, sum_const, sum_at, all_one}
use Rattle.laws.specs.Sums.Lists.{All, none, also, all_append, all_at, all_mono, all_kept, all_upto, keep_append, keep_keep, sum_over_keep}
use Rattle.laws.specs.Sums.Lists.{sum_over_upto, keep_swap, keep_true, length_keep, keep_whole}
use Rattle.laws.specs.Orders.Permutations.{at, Permutation, occurrences_nil, occurrences_cons, occurrences_append, member_occurs, occurrences_total}
use Rattle.laws.specs.Sums.Any.{any_append}

-- ---- the placed vertices

-- the vertices xs are placed: each is below n, and none stands there twice
pub record Placed (n : ℕ) (xs : List ℕ) : Type 0 where
  pub below : All (λ x. x < n) xs
  pub once : (v : ℕ) → occurrences v xs ≤ 1

occurrences_one : (v x : ℕ) → occurrences v (x ∷ []) ≡ one (eqb v x)
occurrences_one v x = omega (arith, occurrences_cons v x [], occurrences_nil v)

pub placed_start : {n s : ℕ} → s < n → Placed n (s ∷ [])
placed_start {n} {s} h = record { below = also h none; once = λ v. omega (arith, occurrences_one v s, one_le (eqb v s)) }

-- one vertex more, that is not placed yet
module _ {n v : ℕ} {xs : List ℕ} (p : Placed n xs) (h : v < n) (free : occurrences v xs ≡ 0) where
  new_once : (u : ℕ) → one (eqb u v) + occurrences u xs ≤ 1
  new_once u =
      elim (ℕ_discrete u v) [
        | yes e ↦ omega (arith, one_eq u v e, ap (λ (w : ℕ). occurrences w xs) e)
        | no d ↦ omega (arith, one_ne u v d, p.once u)
      ]

  pub placed_back : Placed n (xs ++ (v ∷ []))
  placed_back =
      record {
        below = all_append p.below (also h none);
        once = λ u. omega (arith, occurrences_append u xs (v ∷ []), occurrences_one u v, new_once u);
      }

  pub placed_front : Placed n (v ∷ xs)
  placed_front = record { below = also h p.below; once = λ u. omega (arith, occurrences_cons u v xs, new_once u) }

-- how often the vertices occur, summed up, and that n placed vertices are all
module _ {n : ℕ} {xs : List ℕ} (p : Placed n xs) where
  total : sum n (λ v. occurrences v xs) ≡ length xs
  total =
      occurrences_total n xs
      ∙ sum_ext (length xs) (λ i. one (ltb (at xs i) n)) (λ i. 1) (λ i h. one_lt (at xs i) n (all_at 0 p.below i h))
      ∙ sum_const (length xs) 1
      ∙ mul-one (length xs)

  pub placed_all : length xs ≡ n → Permutation n xs
  placed_all e = record { size = e; once = all_one n (λ v. occurrences v xs) (λ v h. p.once v) (total ∙ e) }

-- ---- the vertices that are not placed yet

-- what does not occur is no entry
pub not_member : (v : ℕ) (xs : List ℕ) → occurrences v xs ≡ 0 → member v xs ≡ false
not_member v xs e = member_occurs v xs ∙ le-ltb 0 (occurrences v xs) (omega arith)

module _ (n : ℕ) (xs : List ℕ) where
  -- each of them is below n and does not occur among the placed
  pub all_unplaced : All (λ v. (v < n) × (occurrences v xs ≡ 0)) (unplaced n xs)
  unfolding unplaced
  all_unplaced =
      all_mono (all_kept (λ v. not (member v xs)) (all_upto n))
      (λ v p. (p.0, omega (arith, ltb-false 0 (occurrences v xs) (sym (member_occurs v xs) ∙ not-true (member v xs) p.1))))

  -- a sum over them
  pub sum_over_unplaced : (f : ℕ → ℕ) → sum_over f (unplaced n xs) ≡ sum n (λ v. one (not (member v xs)) * f v)
  unfolding unplaced
  sum_over_unplaced f =
      sum_over_keep f (λ v. not (member v xs)) (upto n) ∙ sum_over_upto (λ v. one (not (member v xs)) * f v) n

  pub unplaced_length : length (unplaced n xs) ≡ sum n (λ v. one (not (member v xs)))
  unfolding unplaced
  unplaced_length = length_keep (λ v. not (member v xs)) (upto n) ∙ sum_over_upto (λ v. one (not (member v xs))) n

  -- with one vertex more
  pub unplaced_next : unplaced (suc n) xs ≡ unplaced n xs ++ cond (not (member n xs)) (n ∷ []) []
  unfolding unplaced upto keep
  unplaced_next = keep_append (λ v. not (member v xs)) (upto n) (n ∷ [])

  -- those other than v
  abbrev pub unplaced_but : ℕ → List ℕ
  unplaced_but v = keep (λ x. not (eqb v x)) (unplaced n xs)

  -- they are what is left once v is placed, at either end
  left_over : (v : ℕ) (ys : List ℕ) → ((x : ℕ) → member x ys ≡ (member x xs || eqb v x)) → unplaced n ys ≡ unplaced_but v
  unfolding unplaced
  left_over v ys h =
      (λ i. keep (λ x. test x i) (upto n)) ∙ sym (keep_keep (λ x. not (eqb v x)) (λ x. not (member x xs)) (upto n))
    where
      not_or : (a b : Bool) → not (a || b) ≡ (not a && not b)
      not_or true b = refl
      not_or false b = refl

      test : (x : ℕ) → not (member x ys) ≡ (not (member x xs) && not (eqb v x))
      test x = ap not (h x) ∙ not_or (member x xs) (eqb v x)

  pub unplaced_front : (v : ℕ) → unplaced n (v ∷ xs) ≡ unplaced_but v
  unfolding member any
  unplaced_front v = left_over v (v ∷ xs) (λ x. or_comm (eqb x v) (any (eqb x) xs) ∙ ap (λ (b : Bool). any (eqb x) xs || b) (eqb_swap x v))

  pub unplaced_back : (v : ℕ) → unplaced n (xs ++ (v ∷ [])) ≡ unplaced_but v
  unfolding member any
  unplaced_back v =
      left_over v (xs ++ (v ∷ []))
      (λ x. any_append (eqb x) xs (v ∷ []) ∙ ap (λ (b : Bool). any (eqb x) xs || b) (or-false (eqb x v) ∙ eqb_swap x v))

  -- v's term taken out of a sum
  pub sum_over_but : (v : ℕ) (f : ℕ → ℕ) → v < n → occurrences v xs ≡ 0 → sum_over f (unplaced n xs) ≡ sum_over f (unplaced_but v) + f v
  unfolding one
  sum_over_but v f h free =
      sum_over_unplaced f
      ∙ sum_ext n (λ x. one (not (member x xs)) * f x) (λ x. other x + one (eqb v x) * own x) (λ x l. split (eqb v x) (one (not (member x xs))) (f x))
      ∙ sum_add n other (λ x. one (eqb v x) * own x)
      ∙ ap₂ (λ (a b : ℕ). a + b)
      (sym (sum_over_keep f (λ x. not (eqb v x)) (unplaced n xs) ∙ sum_over_unplaced (λ x. one (not (eqb v x)) * f x)))
      (sum_at n v own h ∙ ap (λ (b : Bool). one (not b) * f v) (not_member v xs free) ∙ one-mul (f v))
    where
      own : ℕ → ℕ
      own x = one (not (member x xs)) * f x

      other : ℕ → ℕ
      other x = one (not (member x xs)) * (one (not (eqb v x)) * f x)

      split : (b : Bool) (c d : ℕ) → c * d ≡ c * (one (not b) * d) + one b * (c * d)
      split true c d = omega arith
      split false c d = omega arith

-- the chosen one is one of those to choose from
module _ (n : ℕ) (adj xs : List ℕ) {P : ℕ → Type 0} where
  best_among : (best : ℕ) {vs : List ℕ} → P best → All P vs → P (best_of n adj xs best vs)
  unfolding best_of
  best_among best p none = p
  best_among best p (also {x} q qs) = best_among (cond (preferred n adj xs x best) x best) (by_test (preferred n adj xs x best)) qs
    where
      by_test : (b : Bool) → P (cond b x best)
      by_test true = q
      by_test false = p

  pub next_among : {vs : List ℕ} → All P vs → 0 < length vs → P (next_vertex n adj xs vs)
  unfolding next_vertex
  next_among none h = absurd (not-suc-le-zero h)
  next_among (also {x} p ps) h = best_among x p ps

module _ {n : ℕ} {xs : List ℕ} (p : Placed n xs) where
  -- the placed vertices and the others are n
  pub placed_count : length (unplaced n xs) + length xs ≡ n
  unfolding one
  placed_count =
      ap₂ (λ (a b : ℕ). a + b) (unplaced_length n xs) (sym (total p))
      ∙ sym (sum_add n (λ v. one (not (member v xs))) (λ v. occurrences v xs))
      ∙ sum_ext n (λ v. one (not (member v xs)) + occurrences v xs) (λ v. 1)
      (λ v h. rw (member_occurs v xs) (by_number (occurrences v xs) (p.once v)))
      ∙ sum_const n 1
      ∙ mul-one n
    where
      by_number : (k : ℕ) → k ≤ 1 → one (not (ltb 0 k)) + k ≡ 1
      by_number zero h = refl
      by_number (suc zero) h = refl
      by_number (suc (suc k)) h = absurd (omega arith)

  pub all_placed : length xs ≡ n → unplaced n xs ≡ []
  all_placed e = by_length (unplaced n xs) (omega (arith, placed_count))
    where
      by_length : (us : List ℕ) → length us ≡ 0 → us ≡ []
      by_length [] z = refl
      by_length (u ∷ us) z = absurd (omega arith)

-- ---- those of them that pass a test

-- v passes the test p and is not placed yet
pub record Waiting (n : ℕ) (p : ℕ → Bool) (xs : List ℕ) (v : ℕ) : Type 0 where
  pub below : v < n
  pub free : occurrences v xs ≡ 0
  pub passes : p v ≡ true

module _ (n : ℕ) (p : ℕ → Bool) (xs : List ℕ) where
  pub all_waiting : All (Waiting n p xs) (waiting n p xs)
  unfolding waiting
  all_waiting = all_mono (all_kept p (all_unplaced n xs)) (λ v q. record { below = q.0.0; free = q.0.1; passes = q.1 })

  -- the next vertex is one of them
  pub next_waiting : (adj : List ℕ) → 0 < length (waiting n p xs) → Waiting n p xs (next_vertex n adj xs (waiting n p xs))
  next_waiting adj h = next_among n adj xs all_waiting h

-- those other than v are what is left of them once v is placed, and one less
module _ {n : ℕ} {p : ℕ → Bool} {xs : List ℕ} {v : ℕ} (w : Waiting n p xs v) (ys : List ℕ) (placed : unplaced n ys ≡ unplaced_but n xs v) where
  pub waiting_less : length (waiting n p ys) + 1 ≡ length (waiting n p xs)
  unfolding waiting one
  waiting_less =
      rw (placed, length_keep p (unplaced_but n xs v), length_keep p (unplaced n xs), sum_over_but n xs v (λ x. one (p x)) w.below w.free, w.passes)

  -- where v is the first of them, the others are the rest
  pub waiting_rest : {vs : List ℕ} → waiting n p xs ≡ v ∷ vs → waiting n p ys ≡ vs
  unfolding waiting keep
  waiting_rest {vs} e = others ∙ keep_whole (λ x. not (eqb v x)) vs (omega (arith, waiting_less, ap length e, ap length others))
    where
      others : keep p (unplaced n ys) ≡ keep (λ x. not (eqb v x)) vs
      others =
          ap (keep p) placed
          ∙ keep_swap p (λ x. not (eqb v x)) (unplaced n xs)
          ∙ ap (keep (λ x. not (eqb v x))) e
          ∙ rw (eq-eqb v v refl)

-- behind the first all others wait
pub waiting_others : {n s : ℕ} → s < n → n - 1 ≡ length (waiting n (λ v. true) (s ∷ []))
unfolding waiting
waiting_others {n} {s} h = omega (arith, placed_count (placed_start h), ap length (keep_true (unplaced n (s ∷ []))))
