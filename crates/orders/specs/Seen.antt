-- Each vertex once, found by going through the places with a set of the vertices seen.
use Rattle.std.specs.Prelude.{ℕ, suc, ◌+◌, ◌≤◌, ◌<◌, ◌≡◌, true, false, List, length, take, T}
use Rattle.std.proofs.Math.Nat.{le_antisymm, min-le_left}
use Rattle.std.proofs.Common.{le_trans, le_of_eq, mul-one, not-suc-le-zero, le_of_suc-le-suc, add-one, ◌∙◌, length-take, get_or-take}
use native.Mathlib.Omega.{arith}
use Rattle.std.proofs.Math.Decide.{ℕ_discrete}
use Rattle.std.proofs.Math.Path.{sym, ap}
use borrow.Author.Tests.{eq-eqb, eqb-true}
use Rattle.std.proofs.Math.Dec.{eqb}
use Rattle.model.specs.Lists.{one, occurrences}
use Rattle.model.specs.Crossings.{bit}
use Rattle.model.specs.Edits.{with_bit}
use Rattle.model.specs.Layouts.{each_once}
use Rattle.laws.specs.Sums.Bits.{bit_lt, bit_beyond, set_same, set_other}
use Rattle.laws.specs.Sums.Indicators.{one_eq, one_ne, one_lt, T_true, less, same, more, order, not_T_false}
use Rattle.laws.specs.Sums.Every.{upto_every}
use Rattle.laws.specs.Sums.Ranges.{sum, sum_ext, sum_const, sum_swap, all_one}
use Rattle.laws.specs.Sums.Lists.{sum_over_take}
use Rattle.laws.specs.Orders.Permutations.{at, Permutation, at_lt, sum_hits}
use Rattle.laws.specs.Crossings.Bound.{sum_more}
use Rattle.laws.specs.Layouts.Validity.{each_once_lem, not_one_bit}

-- seen holds the vertices at the places before p, each below n and met once
pub record SeenUpTo (n : ℕ) (xs : List ℕ) (seen p : ℕ) : Type 0 where
  pub inside : p ≤ n
  pub mask : (v : ℕ) → bit seen v ≡ sum p (λ i. one (eqb v (at xs i)))
  pub below : (i : ℕ) → i < p → at xs i < n

module _ (n : ℕ) (xs : List ℕ) where
  -- how often v occurs in the first n places
  occurs : (v : ℕ) → n ≤ length xs → occurrences v (take n xs) ≡ sum n (λ i. one (eqb v (at xs i)))
  unfolding occurrences
  occurs v h = sum_over_take (λ x. one (eqb v x)) xs n h

  once_if : n ≤ length xs → T (each_once n (take n xs)) → Permutation n (take n xs)
  once_if h t = each_once_lem n (take n xs) (le_trans (le_of_eq (length-take n xs)) (min-le_left n (length xs))) t

  -- there are not n places
  pub too_short : length xs < n → false ≡ each_once n (take n xs)
  too_short h =
      let short : length (take n xs) ≤ n = omega (arith, length-take n xs) in
      sym (not_T_false (each_once n (take n xs)) (λ t. omega (arith, length-take n xs, (each_once_lem n (take n xs) short t).size)))

module _ {n : ℕ} {xs : List ℕ} where
  pub seen_none : SeenUpTo n xs 0 0
  unfolding sum
  seen_none =
      record { inside = omega arith; mask = λ v. bit_beyond 0 0 v (omega arith) (omega arith); below = λ i l. absurd (not-suc-le-zero l) }

  pub seen_next : {seen p wider v : ℕ} → SeenUpTo n xs seen p → p < n → v ≡ at xs p → v < n
      → wider ≡ with_bit seen v → eqb (bit seen v) 1 ≡ false → SeenUpTo n xs wider (p + 1)
  unfolding sum
  seen_next {seen} {p} {wider} {v} s h e b w f =
      rw (add-one p)
      (record {
        inside = h;
        mask = λ u. ap (λ (x : ℕ). bit x u) w ∙ met u;
        below = λ i l. elim (order i p) [ less m ↦ s.below i m | same m ↦ rw (m, ← e) b | more m ↦ absurd (omega arith) ];
      })
    where
      new : bit seen v ≡ 0
      new = not_one_bit (bit seen v) (bit_lt seen v) f

      met : (u : ℕ) → bit (with_bit seen v) u ≡ sum p (λ i. one (eqb u (at xs i))) + one (eqb u (at xs p))
      met u =
          elim (ℕ_discrete u v) [
            | yes d ↦ rw d (set_same seen v ∙ omega (arith, sym (s.mask v) ∙ new, one_eq v (at xs p) e))
            | no d ↦ set_other seen v u d ∙ omega (arith, s.mask u, one_ne u (at xs p) (λ k. d (k ∙ sym e)))
          ]

  pub seen_all : {seen p : ℕ} → n ≤ length xs → SeenUpTo n xs seen p → n ≤ p → true ≡ each_once n (take n xs)
  unfolding each_once
  seen_all {seen} {p} h s l =
      sym (T_true (each_once n (take n xs)) (upto_every (λ v. eqb (occurrences v (take n xs)) 1) n (λ v b. once v b)))
    where
      end : p ≡ n
      end = le_antisymm s.inside l

      count : (v : ℕ) → occurrences v (take n xs) ≡ bit seen v
      count v = occurs n xs v h ∙ ap (λ (m : ℕ). sum m (λ i. one (eqb v (at xs i)))) (sym end) ∙ sym (s.mask v)

      total : sum n (λ v. occurrences v (take n xs)) ≡ n
      total =
          sum_ext n (λ v. occurrences v (take n xs)) (λ v. sum n (λ i. one (eqb v (at xs i)))) (λ v b. occurs n xs v h)
          ∙ sum_swap n n (λ v i. one (eqb v (at xs i)))
          ∙ sum_ext n (λ i. sum n (λ v. one (eqb v (at xs i)))) (λ i. 1) (λ i b. sum_hits n (at xs i) ∙ one_lt (at xs i) n (s.below i (rw end b)))
          ∙ sum_const n 1 ∙ mul-one n

      once : (v : ℕ) → v < n → T (eqb (occurrences v (take n xs)) 1)
      once v b =
          rw
          (eq-eqb (occurrences v (take n xs)) 1
          (all_one n (λ u. occurrences u (take n xs)) (λ u m. rw (count u) (le_of_suc-le-suc (bit_lt seen u))) total v b))
          tt

  -- a place holds no vertex
  pub not_a_vertex : {seen p : ℕ} → n ≤ length xs → SeenUpTo n xs seen p → p < n → n ≤ at xs p → false ≡ each_once n (take n xs)
  not_a_vertex {p = p} h s l m =
      sym (not_T_false (each_once n (take n xs)) (λ t. omega (arith, at_lt (once_if n xs h t) p l, get_or-take n xs p 0 l)))

  -- a place holds a vertex that was seen before
  pub seen_again : {seen p v : ℕ} → n ≤ length xs → SeenUpTo n xs seen p → p < n → v ≡ at xs p → v < n → eqb (bit seen v) 1 ≡ true
      → false ≡ each_once n (take n xs)
  unfolding sum
  seen_again {seen} {p} {v} h s l e b f =
      sym (not_T_false (each_once n (take n xs))
      (λ t. omega (
        arith,
        (once_if n xs h t).once v b,
        occurs n xs v h,
        sum_more (suc p) n (λ i. one (eqb v (at xs i))) l,
        s.mask v,
        eqb-true (bit seen v) 1 f,
        one_eq v (at xs p) e,
      )))
