-- What a valid layout has: an order that holds each vertex once, and symmetric edges. So its crossings are the sum over places, and bounded.
use Rattle.std.specs.Prelude.{ℕ, zero, suc, ◌^◌, ◌≤◌, ◌<◌, ◌≡◌, refl, Bool, true, false, cond, List, length, get_or, take, T, eqb, leb, ltb}
use Rattle.std.proofs.Common.{le_antisymm, le_trans, le_of_eq, mul-one, arith, sym, ap, ◌∙◌, subst, length-take, le-leb, eq-eqb, ne_eqb, leb→le, ltb→lt, lt→ltb, eqb→eq}
use Rattle.std.proofs.Math.Nat.{min-le_left}
use Rattle.std.proofs.Math.Bool.{beq, not}
use Rattle.std.proofs.lemmas.Bool.{lt-leb}
use Rattle.model.specs.declared.Layout.{Layout}
use Rattle.model.specs.Lists.{one, upto, every, occurrences}
use Rattle.model.specs.Crossings.{linked, unit_weight}
use Rattle.model.specs.Layouts.{capacity, vertex_order, weight, crossings_of, each_once, zero_from, symmetric, loopless, bits_below, weights_fit, valid}
use Rattle.laws.specs.Sums.Indicators.{T_true, less, same, more, order, and_left, and_right, one_le, beq_eq}
use Rattle.laws.specs.Sums.Every.{every_upto, upto_every, upto_fails, every_keep}
use Rattle.laws.specs.Sums.Ranges.{sum, sum_ext, sum_const, sum_swap, sum_mono}
use Rattle.laws.specs.Orders.Permutations.{at, Permutation, occurrences_places, sum_hits}
use Rattle.laws.specs.Sums.Pairs.{Symmetric}
use Rattle.laws.specs.Crossings.Counting.{crossing_sum, placed}
use Rattle.laws.specs.Crossings.Edges.{crossings_sum}
use Rattle.laws.specs.Tables.Fits.{Fits, fits_each, each_fits, fits_light, fits_symmetric}

-- a bit that is not 1 is 0
pub not_one_bit : (b : ℕ) → b < 2 → eqb b 1 ≡ false → b ≡ 0
not_one_bit zero h f = refl
not_one_bit (suc zero) h f = absurd (subst T f tt)
not_one_bit (suc (suc b)) h f = absurd (omega arith)

-- ---- the clauses of validity

-- at most n places that hold each of n vertices once are n places
pub each_once_lem : (n : ℕ) (o : List ℕ) → length o ≤ n → T (each_once n o) → Permutation n o
unfolding each_once
each_once_lem n o h t =
    record { size = le_antisymm h (le_trans (le_of_eq (sym total)) hit); once = once }
  where
    once : (v : ℕ) → v < n → occurrences v o ≡ 1
    once v l = eqb→eq (occurrences v o) 1 (every_upto (λ u. eqb (occurrences u o) 1) n t v l)

    total : sum (length o) (λ i. sum n (λ v. one (eqb v (at o i)))) ≡ n
    total =
        sum_swap (length o) n (λ i v. one (eqb v (at o i)))
        ∙ sum_ext n (λ v. sum (length o) (λ i. one (eqb v (at o i)))) (λ v. 1) (λ v l. sym (occurrences_places v o) ∙ once v l)
        ∙ sum_const n 1 ∙ mul-one n

    hit : sum (length o) (λ i. sum n (λ v. one (eqb v (at o i)))) ≤ length o
    hit =
        le_trans
        (sum_mono (length o) (λ i. sum n (λ v. one (eqb v (at o i)))) (λ i. 1)
        (λ i l. le_trans (le_of_eq (sum_hits n (at o i))) (one_le (ltb (at o i) n))))
        (le_of_eq (sum_const (length o) 1 ∙ mul-one (length o)))

pub permutation_each_once : {n : ℕ} {o : List ℕ} → Permutation n o → T (each_once n o)
unfolding each_once
permutation_each_once {n} {o} perm = upto_every (λ v. eqb (occurrences v o) 1) n (λ v h. rw (eq-eqb (occurrences v o) 1 (perm.once v h)) tt)

not_one : (b : Bool) → T (not b) → one b ≡ 0
unfolding one
not_one true t = absurd t
not_one false t = refl

pub symmetric_weight : (n : ℕ) (adj : List ℕ) → T (symmetric n adj) → T (loopless n adj) → Symmetric n (unit_weight adj)
unfolding symmetric loopless
symmetric_weight n adj s d =
    record {
      swap = λ u v a b.
          ap one
          (beq_eq (linked adj u v) (linked adj v u)
          (every_upto (λ y. beq (linked adj u y) (linked adj y u)) n
          (every_upto (λ x. every (λ y. beq (linked adj x y) (linked adj y x)) (upto n)) n s u a) v b));
      diagonal = λ v a. not_one (linked adj v v) (every_upto (λ x. not (linked adj x x)) n d v a);
    }

-- a test is its number
one_same : (a b : Bool) → one a ≡ one b → T (beq a b)
unfolding one
one_same true true e = tt
one_same true false e = absurd (omega arith)
one_same false true e = absurd (omega arith)
one_same false false e = tt

not_zero : (b : Bool) → one b ≡ 0 → T (not b)
unfolding one
not_zero true e = absurd (omega arith)
not_zero false e = tt

module _ (n : ℕ) (adj : List ℕ) (s : Symmetric n (unit_weight adj)) where
  weight_symmetric : T (symmetric n adj)
  unfolding symmetric
  weight_symmetric =
      upto_every (λ u. every (λ v. beq (linked adj u v) (linked adj v u)) (upto n)) n
      (λ u a. upto_every (λ v. beq (linked adj u v) (linked adj v u)) n (λ v b. one_same (linked adj u v) (linked adj v u) (s.swap u v a b)))

  pub weight_loopless : T (loopless n adj)
  unfolding loopless
  weight_loopless = upto_every (λ v. not (linked adj v v)) n (λ v a. not_zero (linked adj v v) (s.diagonal v a))

-- the places from n on, one by one
zero_from_upto : (n : ℕ) (xs : List ℕ) → zero_from n xs ≡ every (λ i. cond (leb n i) (eqb (get_or xs i 0) 0) true) (upto capacity)
unfolding zero_from
zero_from_upto n xs = every_keep (λ i. eqb (get_or xs i 0) 0) (leb n) (upto capacity)

pub zero_from_lem : (n : ℕ) (xs : List ℕ) → ((i : ℕ) → n ≤ i → i < capacity → get_or xs i 0 ≡ 0) → T (zero_from n xs)
zero_from_lem n xs h =
    subst T (sym (zero_from_upto n xs))
    (upto_every (λ i. cond (leb n i) (eqb (get_or xs i 0) 0) true) capacity
    (λ i l. elim (order i n) [ less b ↦ rw (lt-leb n i b) tt | same e ↦ passes i l (omega arith) | more b ↦ passes i l (omega arith) ]))
  where
    passes : (i : ℕ) → i < capacity → n ≤ i → T (cond (leb n i) (eqb (get_or xs i 0) 0) true)
    passes i l b = rw (le-leb n i b, eq-eqb (get_or xs i 0) 0 (h i b l)) tt

pub zero_from_at : (n : ℕ) (xs : List ℕ) → T (zero_from n xs) → (i : ℕ) → n ≤ i → i < capacity → get_or xs i 0 ≡ 0
zero_from_at n xs t i b l =
    eqb→eq (get_or xs i 0) 0
    (rw (le-leb n i b) at (every_upto (λ i. cond (leb n i) (eqb (get_or xs i 0) 0) true) capacity (subst T (zero_from_upto n xs) t) i l))

pub zero_from_fails : (n : ℕ) (xs : List ℕ) (i : ℕ) → n ≤ i → i < capacity → (get_or xs i 0 ≡ 0 → ⊥) → zero_from n xs ≡ false
zero_from_fails n xs i b l d =
    zero_from_upto n xs
    ∙ upto_fails (λ i. cond (leb n i) (eqb (get_or xs i 0) 0) true) capacity i l (rw (le-leb n i b) (ne_eqb (get_or xs i 0) 0 d))

pub record Sound (l : Layout) : Type 0 where
  pub small : l.n ≤ capacity
  pub permutation : Permutation l.n (vertex_order l)
  pub places : (i : ℕ) → l.n ≤ i → i < capacity → get_or l.order i 0 ≡ 0
  pub words : Symmetric l.n (unit_weight l.adjacency)
  pub bits : (v : ℕ) → v < capacity → get_or l.adjacency v 0 < 2 ^ l.n
  pub unused : (v : ℕ) → l.n ≤ v → v < capacity → get_or l.adjacency v 0 ≡ 0
  pub fits : Fits l.n l.adjacency l.weights

pub sound : (l : Layout) → T (valid l) → Sound l
unfolding valid vertex_order bits_below
sound l t =
    let small = leb→le l.n capacity (search (and_left, and_right) depth 8) in
    record {
      small = small;
      permutation =
          each_once_lem l.n (take l.n l.order)
          (le_trans (le_of_eq (length-take l.n l.order)) (min-le_left l.n (length l.order)))
          (search (and_left, and_right) depth 8);
      places = zero_from_at l.n l.order (search (and_left, and_right) depth 8);
      words =
          symmetric_weight l.n l.adjacency (search (and_left, and_right) depth 8) (search (and_left, and_right) depth 8);
      bits = λ v b. ltb→lt (get_or l.adjacency v 0) (2 ^ l.n)
          (every_upto (λ v. ltb (get_or l.adjacency v 0) (2 ^ l.n)) capacity (search (and_left, and_right) depth 8) v b);
      unused = zero_from_at l.n l.adjacency (search (and_left, and_right) depth 8);
      fits = fits_each small (search (and_left, and_right) depth 8);
    }

-- and a layout with all that is valid
pub sound_valid : (l : Layout) → Sound l → T (valid l)
unfolding valid bits_below
sound_valid l s =
    rw (
      le-leb l.n capacity s.small,
      T_true (each_once l.n (vertex_order l)) (permutation_each_once s.permutation),
      T_true (zero_from l.n l.order) (zero_from_lem l.n l.order s.places),
      T_true (symmetric l.n l.adjacency) (weight_symmetric l.n l.adjacency s.words),
      T_true (loopless l.n l.adjacency) (weight_loopless l.n l.adjacency s.words),
      T_true (bits_below l.n l.adjacency)
          (upto_every (λ v. ltb (get_or l.adjacency v 0) (2 ^ l.n)) capacity (λ v b. lt→ltb (get_or l.adjacency v 0) (2 ^ l.n) (s.bits v b))),
      T_true (zero_from l.n l.adjacency) (zero_from_lem l.n l.adjacency s.unused),
      T_true (weights_fit l.n l.adjacency l.weights) (each_fits s.small s.fits),
    )
    tt

-- the weights of a layout with all that
pub weights_symmetric : {l : Layout} → Sound l → Symmetric l.n (weight l)
unfolding weight
weights_symmetric {l} s = fits_symmetric s.fits (weight_loopless l.n l.adjacency s.words)

pub valid_symmetric : (l : Layout) → T (valid l) → Symmetric l.n (weight l)
valid_symmetric l t = weights_symmetric (sound l t)

-- no edge weighs more
pub weight_most : (l : Layout) → T (valid l) → (u v : ℕ) → u < 64 → v < 64 → weight l u v ≤ 255
unfolding weight
weight_most l t = fits_light (sound l t).fits (sound l t).small

-- ---- the crossings of a valid layout

-- the weight of the edge between two places of a layout
abbrev pub place_weight : Layout → ℕ → ℕ → ℕ
place_weight l = placed (vertex_order l) (weight l)

module _ (l : Layout) (t : T (valid l)) where
  -- counted over rising places
  pub crossings_rising : crossings_of l ≡ crossing_sum l.n (place_weight l)
  unfolding crossings_of
  crossings_rising = crossings_sum (sound l t).permutation (weight l) (valid_symmetric l t)
