-- Every order that vertex 0 leads is listed exactly once.
use Rattle.std.specs.Prelude.{ℕ, zero, suc, ◌+◌, ◌*◌, ◌<◌, ◌≡◌, refl, Bool, true, false, not, List, [], ◌∷◌, ◌++◌, length, eqb}
use Rattle.std.proofs.Common.{mul_comm, arith, sym, ap, ◌∙◌, subst, append-nil, append_assoc, length-append}
use Rattle.std.proofs.Math.Decide.{ℕ_discrete}
use Rattle.std.proofs.Math.Seq.{get_or-append_seam}
use Rattle.model.specs.Lists.{one, sum_over, member, occurrences}
use Rattle.model.specs.Charts.{same_list}
use Rattle.model.specs.GreedyAppend.{unplaced}
use Rattle.laws.specs.Sums.Indicators.{one_eq, one_ne}
use Rattle.laws.specs.Sums.Ranges.{sum_ext, sum_at}
use Rattle.laws.specs.Sums.Lists.{All, none, also, all_mono, sum_over_ext, sum_over_flat_map}
use Rattle.laws.specs.Sums.Lists.{same_list_lem, list_same}
use Rattle.laws.specs.Orders.Permutations.{at, Permutation, at_lt, occurrences_cons, occurrences_append}
use Rattle.laws.specs.Append.Order.{all_unplaced, sum_over_unplaced, not_member}
use Rattle.model.specs.SmallOrders.{list_rest, all_orders, listed}
use Rattle.laws.specs.Small.Entries.{Begun, begun_alone, begun_next, rest_complete, Leading}

-- ---- how often an order is listed

pub listed_none : (o : List ℕ) {os : List (List ℕ)} → All (λ p. same_list o p ≡ false) os → listed o os ≡ 0
unfolding listed sum_over one
listed_none o none = refl
listed_none o (also e es) = rw e (omega (arith, listed_none o es))

-- what is listed has what every entry has
pub listed_has : {P : List ℕ → Type 0} (o : List ℕ) {os : List (List ℕ)} → All P os → 0 < listed o os → P o
unfolding listed sum_over one
listed_has o none h = absurd (omega arith)
listed_has {P} o (also {x} {xs} p ps) h = by_test (same_list o x) refl h (listed_has o ps)
  where
    by_test : (b : Bool) → same_list o x ≡ b → 0 < one b + sum_over (λ y. one (same_list o y)) xs → (0 < sum_over (λ y. one (same_list o y)) xs → P o) → P o
    by_test true e k r = subst P (sym (same_list_lem o x e)) p
    by_test false e k r = r (omega arith)

-- two lists with the same start that go on differently
others_differ : (xs : List ℕ) (v u : ℕ) (r s : List ℕ) → (v ≡ u → ⊥) → same_list (xs ++ (v ∷ r)) (xs ++ (u ∷ s)) ≡ false
others_differ xs v u r s d = by_test (same_list (xs ++ (v ∷ r)) (xs ++ (u ∷ s))) refl
  where
    by_test : (b : Bool) → same_list (xs ++ (v ∷ r)) (xs ++ (u ∷ s)) ≡ b → b ≡ false
    by_test false e = refl
    by_test true e =
        absurd
        (d (sym (get_or-append_seam xs v r 0) ∙ ap (λ (o : List ℕ). at o (length xs)) (same_list_lem (xs ++ (v ∷ r)) (xs ++ (u ∷ s)) e) ∙ get_or-append_seam xs u s 0))

-- ---- exactly once

-- the vertex behind xs is one of those not placed yet
module _ {n : ℕ} (xs : List ℕ) (v : ℕ) (rest : List ℕ) (perm : Permutation n (xs ++ (v ∷ rest))) where
  pub next_below : v < n
  next_below =
      subst (λ (u : ℕ). u < n) (get_or-append_seam xs v rest 0)
      (at_lt perm (length xs) (omega (arith, perm.size, length-append xs (v ∷ rest))))

  pub next_free : occurrences v xs ≡ 0
  next_free = omega (arith, perm.once v next_below, occurrences_append v xs (v ∷ rest), occurrences_cons v v rest, one_eq v v refl)

pub rest_once : {n : ℕ} (k : ℕ) (xs rest : List ℕ) → Begun n k xs → Permutation n (xs ++ rest) → length rest ≡ k
    → listed (xs ++ rest) (list_rest n k xs) ≡ 1
unfolding list_rest listed sum_over one
rest_once zero xs [] b perm e = rw (append-nil xs, list_same xs)
rest_once zero xs (v ∷ rest) b perm e = absurd (omega arith)
rest_once (suc k) xs [] b perm e = absurd (omega arith)
rest_once {n} (suc k) xs (v ∷ rest) b perm e =
    sum_over_flat_map (λ p. one (same_list (xs ++ (v ∷ rest)) p)) (λ u. list_rest n k (xs ++ (u ∷ []))) (unplaced n xs)
    ∙ sum_over_ext (λ u. listed (xs ++ (v ∷ rest)) (list_rest n k (xs ++ (u ∷ [])))) (λ u. one (eqb v u)) (all_unplaced n xs)
    (each (rest_once k (xs ++ (v ∷ [])) rest step moved fewer))
    ∙ sum_over_unplaced n xs (λ u. one (eqb v u))
    ∙ sum_ext n (λ u. one (not (member u xs)) * one (eqb v u)) (λ u. one (eqb v u) * one (not (member u xs)))
    (λ u l. mul_comm (one (not (member u xs))) (one (eqb v u)))
    ∙ sum_at n v (λ u. one (not (member u xs))) below
    ∙ ap (λ (t : Bool). one (not t)) (not_member v xs free)
  where
    below : v < n
    below = next_below xs v rest perm

    free : occurrences v xs ≡ 0
    free = next_free xs v rest perm

    step : Begun n k (xs ++ (v ∷ []))
    step = begun_next b below free

    moved : Permutation n ((xs ++ (v ∷ [])) ++ rest)
    moved = subst (Permutation n) (sym (append_assoc xs (v ∷ []) rest)) perm

    fewer : length rest ≡ k
    fewer = omega arith

    each : listed ((xs ++ (v ∷ [])) ++ rest) (list_rest n k (xs ++ (v ∷ []))) ≡ 1
        → (u : ℕ) → (u < n) × (occurrences u xs ≡ 0) → listed (xs ++ (v ∷ rest)) (list_rest n k (xs ++ (u ∷ []))) ≡ one (eqb v u)
    each again u q =
        elim (ℕ_discrete v u) [
          | yes same ↦ subst (λ (w : ℕ). listed (xs ++ (v ∷ rest)) (list_rest n k (xs ++ (w ∷ []))) ≡ one (eqb v w)) same
              (ap (λ (o : List ℕ). listed o (list_rest n k (xs ++ (v ∷ [])))) (sym (append_assoc xs (v ∷ []) rest)) ∙ again ∙ sym (one_eq v v refl))
          | no d ↦
              listed_none (xs ++ (v ∷ rest))
              (all_mono (rest_complete k (begun_next b q.0 q.1))
              (λ p c. ap (same_list (xs ++ (v ∷ rest))) (c.parts ∙ append_assoc xs (u ∷ []) c.rest) ∙ others_differ xs v u rest c.rest d))
              ∙ sym (one_ne v u d)
        ]

-- "Every order .. is there exactly once": of those that vertex 0 leads
pub orders_once : {n : ℕ} {o : List ℕ} → Leading n o → listed o (all_orders n) ≡ 1
unfolding all_orders listed sum_over one same_list
orders_once {n} {o} l = by_parts n o l.permutation l.first
  where
    by_parts : (n : ℕ) (o : List ℕ) → Permutation n o → at o 0 ≡ 0 → listed o (all_orders n) ≡ 1
    by_parts zero [] perm e = refl
    by_parts zero (x ∷ o) perm e = absurd (omega (arith, perm.size))
    by_parts (suc n) [] perm e = absurd (omega (arith, perm.size))
    by_parts (suc n) (x ∷ o) perm e =
        subst (λ (v : ℕ). listed (v ∷ o) (list_rest (suc n) n (0 ∷ [])) ≡ 1) (sym e)
        (rest_once n (0 ∷ []) o (begun_alone n) (subst (λ (v : ℕ). Permutation (suc n) (v ∷ o)) e perm) (omega (arith, perm.size)))
