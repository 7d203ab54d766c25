-- The search that leaves branches out gives the answer of the definition.
use Prim.Native.Nat.{ℕ, zero, suc, ◌+◌, ◌≤◌, ◌<◌}
use Rattle.std.proofs.Common.{le_trans, ◌∙◌, le-leb}
use native.Mathlib.Omega.{arith}
use Rattle.std.specs.Prelude.{◌≡◌}
use Rattle.std.proofs.Math.Path.{sym, ap}
use mathlib.Core.List.{List, [], ◌∷◌, ◌++◌}
use Rattle.std.proofs.lemmas.Bool.{lt-leb}
use Rattle.model.specs.Lists.{upto, occurrences}
use Rattle.model.specs.Crossings.{crossings}
use Rattle.model.specs.GreedyAppend.{back_crossings}
use Rattle.laws.specs.Sums.Indicators.{less, same, more, order}
use Rattle.laws.specs.Sums.Lists.{all_mono}
use Rattle.laws.specs.Sums.Pairs.{Symmetric}
use Rattle.laws.specs.Crossings.Lists.{closed_crossings}
use Rattle.laws.specs.Append.Order.{all_unplaced, placed_all}
use Rattle.model.specs.SmallOrders.{list_rest, all_orders, least_of_all, first_least}
use Rattle.laws.specs.Small.Entries.{Begun, begun_alone, begun_next, rest_complete}
use Rattle.laws.specs.Small.Branches.{met_so_far, met_alone}
use Rattle.laws.proofs.Small.Branches.{met_step, met_full, branch}
use Rattle.laws.specs.Small.Search.{Best, best_in, better_taken, better_kept, best_stays, search_rest, turn_best, pass_answer}

module _ {n : ℕ} {W : ℕ → ℕ → ℕ} (symmetry : Symmetric n W) where
  -- what is left out holds nothing better
  left_out : {k : ℕ} {xs : List ℕ} (c : Best) → Begun n k xs → c.count ≤ met_so_far n W xs → best_in (closed_crossings W) c (list_rest n k xs) ≡ c
  left_out {k} c b l = best_stays (closed_crossings W) c (all_mono (rest_complete k b) (λ o d. le_trans l (branch symmetry d)))

  pub search_best : (k : ℕ) {xs : List ℕ} (m : ℕ) → m ≡ met_so_far n W xs → Begun n k xs → (c : Best)
      → search_rest n W k xs m c ≡ best_in (closed_crossings W) c (list_rest n k xs)
  unfolding search_rest list_rest best_in
  search_best zero {xs} m e b c =
      elim (order m c.count) [
        | less l ↦
            rw (lt-leb c.count m l)
            (ap (λ (k : ℕ). record { count = k; order = xs }) full ∙ sym (better_taken (closed_crossings W) c xs (omega (arith, full))))
        | same h ↦ rw (le-leb c.count m (omega arith)) (sym (better_kept (closed_crossings W) c xs (omega (arith, full))))
        | more l ↦ rw (le-leb c.count m (omega arith)) (sym (better_kept (closed_crossings W) c xs (omega (arith, full))))
      ]
    where
      full : m ≡ closed_crossings W xs
      full = e ∙ met_full symmetry (placed_all b.placed (omega (arith, b.left)))
  search_best (suc k) {xs} m e b c =
      elim (order m c.count) [
        | less l ↦
            rw (lt-leb c.count m l)
            (turn_best (closed_crossings W) _ (λ v. list_rest n k (xs ++ (v ∷ [])))
            (λ d v q. search_best k (m + back_crossings n W xs v) (next v q) (begun_next b q.0 q.1) d) (all_unplaced n xs) c)
        | same h ↦ rw (le-leb c.count m (omega arith)) (sym (left_out c b (omega arith)))
        | more l ↦ rw (le-leb c.count m (omega arith)) (sym (left_out c b (omega arith)))
      ]
    where
      next : (v : ℕ) → (v < n) × (occurrences v xs ≡ 0) → m + back_crossings n W xs v ≡ met_so_far n W (xs ++ (v ∷ []))
      next v q = ap (λ (k : ℕ). k + back_crossings n W xs v) e ∙ sym (met_step symmetry b.placed q.0 q.1)

-- the search of n + 1 vertices, from vertex 0 alone
pub search_answer : (n : ℕ) (W : ℕ → ℕ → ℕ) → Symmetric (suc n) W → (most : ℕ) (d : List ℕ) → crossings (suc n) (upto (suc n)) W < most
    → search_rest (suc n) W n (0 ∷ []) 0 (record { count = most; order = d })
    ≡ record { count = least_of_all (suc n) W; order = first_least (suc n) W }
unfolding all_orders
search_answer n W symmetry most d h =
    search_best symmetry n 0 (sym (met_alone (suc n) W 0)) (begun_alone n) (record { count = most; order = d })
    ∙ pass_answer (suc n) W symmetry most d h
