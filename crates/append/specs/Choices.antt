-- The vertex that the code chooses is the next one of the definition.
use Prim.Native.Nat.{ℕ, zero, suc, ◌≤◌, ◌<◌}
use Rattle.std.proofs.Common.{le_refl, le_of_lt, le_of_eq, le_trans, sym, ◌∙◌}
use native.Mathlib.Omega.{arith}
use Rattle.std.specs.Prelude.{◌≡◌, Bool, not, ◌&&◌, ◌||◌, get_or}
use Rattle.std.proofs.Math.Path.{refl, ap, ap₂}
use Rattle.std.proofs.Math.Bool.{true, false, cond}
use mathlib.Core.List.{List, [], ◌∷◌, ◌++◌, append-nil}
use Rattle.std.proofs.Math.ListN.{length}
use Rattle.std.proofs.Math.Dec.{eqb, ltb}
use borrow.Author.Tests.{lt-ltb}
use Rattle.model.specs.Lists.{upto, keep, member}
use Rattle.model.specs.GreedyAppend.{unplaced, waiting, isolated, has_edges, degree_in, preferred, best_of, next_vertex}
use Rattle.laws.specs.Sums.Lists.{keep_append}
use Rattle.laws.specs.Sums.Bits.{masked_ones_le}
use Rattle.laws.specs.Append.Order.{Placed, unplaced_next, next_waiting}
use Rattle.append_choice.specs.declared.Choice.{Choice}
use Rattle.append_choice.specs.Choices.{comes_before, preferred_of, candidate, considered_of, no_choice, best_below}
use Rattle.append_choice.specs.Choices.{complement}
use Rattle.laws.specs.Append.Held.{Held, placed_test}
use Rattle.append.specs.Masks.{Words, inside_count, outside_count}

module _ (n : ℕ) (adj xs : List ℕ) where
  -- a vertex with the counts of the definition
  counts : ℕ → Choice
  counts v = record { vertex = v; placed = degree_in adj v xs; unplaced = degree_in adj v (unplaced n xs) }

  choice_of : List ℕ → Choice
  choice_of [] = no_choice n
  choice_of (v ∷ vs) = counts (best_of n adj xs v vs)

  best_of_last : (b : ℕ) (vs : List ℕ) (v : ℕ)
      → best_of n adj xs b (vs ++ (v ∷ [])) ≡ cond (preferred n adj xs v (best_of n adj xs b vs)) v (best_of n adj xs b vs)
  unfolding best_of
  best_of_last b [] v = refl
  best_of_last b (u ∷ vs) v = best_of_last (cond (preferred n adj xs u b) u b) vs v

  choice_last : (vs : List ℕ) (k : ℕ) → degree_in adj k (unplaced n xs) ≤ 64 → preferred_of (choice_of vs) (counts k) ≡ choice_of (vs ++ (k ∷ []))
  unfolding preferred_of comes_before choice_of counts no_choice best_of preferred
  choice_last [] k h = ap (λ (b : Bool). cond b (counts k) (no_choice n)) (first (degree_in adj k xs))
    where
      first : (d : ℕ) → (ltb 0 d || eqb d 0 && ltb (degree_in adj k (unplaced n xs)) 65) ≡ true
      first zero = lt-ltb (degree_in adj k (unplaced n xs)) 65 (omega arith)
      first (suc d) =
          ap (λ (b : Bool). b || eqb (suc d) 0 && ltb (degree_in adj k (unplaced n xs)) 65) (lt-ltb 0 (suc d) (omega arith))
  choice_last (v ∷ vs) k h =
      by_test (preferred n adj xs k (best_of n adj xs v vs)) ∙ ap counts (sym (best_of_last v vs k))
    where
      by_test : (b : Bool) → cond b (counts k) (counts (best_of n adj xs v vs)) ≡ counts (cond b k (best_of n adj xs v vs))
      by_test true = refl
      by_test false = refl

module _ {n : ℕ} {adj : List ℕ} (w : Words n adj) {xs : List ℕ} (p : Placed n xs) {m : ℕ} (h : Held m xs) where
  candidate_counts : (v : ℕ) → v < n → candidate v (get_or adj v 0) m ≡ counts n adj xs v
  unfolding candidate counts
  candidate_counts v l =
      ap₂ (λ (a b : ℕ). record { vertex = v; placed = a; unplaced = b }) (inside_count w p h v) (outside_count w p h v l)

  best_choice : (k : ℕ) → k ≤ n → best_below n adj m k ≡ choice_of n adj xs (waiting k (has_edges adj) xs)
  unfolding best_below choice_of unplaced waiting upto keep considered_of has_edges isolated
  best_choice zero l = refl
  best_choice (suc k) l =
      ap (λ (c : Choice). considered_of c k (get_or adj k 0) m) (best_choice k (le_of_lt l))
      ∙ ap₂ (λ (t : Bool) (c : Choice). cond (isolated adj k) so_far (cond t so_far (preferred_of so_far c)))
      (placed_test w.small p h k l) (candidate_counts k l)
      ∙ by_tests (isolated adj k) (member k xs) refl
      ∙ ap (choice_of n adj xs)
      (sym (ap (keep (has_edges adj)) (unplaced_next k xs) ∙ keep_append (has_edges adj) (unplaced k xs) (cond (not (member k xs)) (k ∷ []) [])))
    where
      before : List ℕ
      before = waiting k (has_edges adj) xs

      so_far : Choice
      so_far = choice_of n adj xs before

      -- nothing more to choose from
      same : so_far ≡ choice_of n adj xs (before ++ [])
      same = ap (choice_of n adj xs) (sym (append-nil before))

      by_tests : (i t : Bool) → isolated adj k ≡ i
          → cond i so_far (cond t so_far (preferred_of so_far (counts n adj xs k)))
          ≡ choice_of n adj xs (before ++ keep (has_edges adj) (cond (not t) (k ∷ []) []))
      by_tests true true e = same
      by_tests true false e = rw e same
      by_tests false true e = same
      by_tests false false e =
          let few = le_trans (le_of_eq (sym (outside_count w p h k l))) (masked_ones_le (get_or adj k 0) (complement m)) in
          rw e (choice_last n adj xs before k few)

  abbrev candidates : List ℕ
  candidates = waiting n (has_edges adj) xs

  module _ {v : ℕ} (e : v ≡ (best_below n adj m n).vertex) where
    chosen : v ≡ (choice_of n adj xs candidates).vertex
    chosen = e ∙ ap (λ (c : Choice). c.vertex) (best_choice n (le_refl n))

    -- a vertex was found: it is the next one
    pub next_found : v < n → (0 < length candidates) × (v ≡ next_vertex n adj xs candidates)
    unfolding choice_of counts no_choice next_vertex
    next_found l = by_list candidates chosen
      where
        by_list : (vs : List ℕ) → v ≡ (choice_of n adj xs vs).vertex → (0 < length vs) × (v ≡ next_vertex n adj xs vs)
        by_list [] d = absurd (omega arith)
        by_list (u ∷ us) d = (omega arith, d)

    -- none was found: there is none
    pub next_none : n ≤ v → length candidates ≡ 0
    unfolding choice_of counts no_choice next_vertex
    next_none l = by_list candidates refl
      where
        by_list : (vs : List ℕ) → candidates ≡ vs → length vs ≡ 0
        by_list [] d = refl
        by_list (u ∷ us) d =
            absurd
            (omega (
              arith,
              chosen ∙ ap (λ (vs : List ℕ). (choice_of n adj xs vs).vertex) d ∙ ap (next_vertex n adj xs) (sym d),
              (next_waiting n (has_edges adj) xs adj (omega (arith, ap length d))).below,
            ))
