-- The next vertex, found by going through all vertices with counts under the set of the placed ones and under its complement.
use Rattle.std.specs.Prelude.{ℕ, zero, suc, ◌+◌, ◌-◌, ◌^◌, ◌≤◌, ◌<◌, ◌≡◌, Bool, true, false, cond, ◌&&◌, ◌||◌, List, get_or, eqb, ltb, leb}
use Rattle.std.specs.Prelude.{None, Some, IfSome, MatchOption}
use Rattle.std.proofs.Common.{le_antisymm, le-leb, add-one, arith, sym, ◌∙◌}
use Rattle.std.proofs.lemmas.Bool.{lt-ltb}
use Rattle.std.specs.declared.option.Option.{Option}
use Rattle.std.proofs.Math.Path.{refl, ap}
use Rattle.model.specs.Crossings.{bit}
use Rattle.laws.specs.Sums.Bits.{masked_ones, masked_ones_le}
use Rattle.append_choice.specs.declared.Choice.{Choice}

-- the bits that a word of 64 bits does not have
unfoldable pub complement : ℕ → ℕ
complement m = 2 ^ 64 - 1 - m

-- a comes before b
unfoldable pub comes_before : Choice → Choice → Bool
comes_before a b = ltb b.placed a.placed || eqb a.placed b.placed && ltb a.unplaced b.unplaced

unfoldable pub preferred_of : Choice → Choice → Choice
preferred_of best other = cond (comes_before other best) other best

unfoldable pub candidate : ℕ → ℕ → ℕ → Choice
candidate v word placed = record { vertex = v; placed = masked_ones word placed; unplaced = masked_ones word (complement placed) }

unfoldable pub considered_of : Choice → ℕ → ℕ → ℕ → Choice
considered_of best v word placed = cond (eqb word 0) best (cond (eqb (bit placed v) 1) best (preferred_of best (candidate v word placed)))

-- every candidate is preferred to none, which is shown as the number n
unfoldable pub no_choice : ℕ → Choice
no_choice n = record { vertex = n; placed = 0; unplaced = 65 }

-- the best of the vertices below k
unfoldable pub best_below : ℕ → List ℕ → ℕ → ℕ → Choice
best_below n adj placed zero = no_choice n
best_below n adj placed (suc k) = considered_of (best_below n adj placed k) k (get_or adj k 0) placed

-- ---- the choice as the code holds it: none, or a candidate

unfoldable pub shown : ℕ → Option Choice → Choice
shown n None = no_choice n
shown n (Some c) = c

unfoldable pub candidate_if : ℕ → ℕ → ℕ → Option Choice
candidate_if v word placed = cond (eqb word 0) None (cond (eqb (bit placed v) 1) None (Some (candidate v word placed)))

unfoldable pub preferred_in : Option Choice → Choice → Choice
preferred_in None other = other
preferred_in (Some best) other = preferred_of best other

-- after one more vertex
unfoldable pub turned : Option Choice → Option Choice → Option Choice
turned best None = best
turned best (Some other) = Some (preferred_in best other)

-- no vertex has 65 neighbours, so each candidate is preferred to none
first_preferred : (n v word placed : ℕ) → preferred_of (no_choice n) (candidate v word placed) ≡ candidate v word placed
unfolding preferred_of comes_before no_choice candidate
first_preferred n v word placed =
    by_number (masked_ones word placed) (masked_ones word (complement placed)) (masked_ones_le word (complement placed))
  where
    by_number : (d u : ℕ) → u ≤ 64
        → let other : Choice = record { vertex = v; placed = d; unplaced = u } in
        cond (ltb 0 d || eqb d 0 && ltb u 65) other (record { vertex = n; placed = 0; unplaced = 65 }) ≡ other
    by_number zero u h = rw (lt-ltb u 65 (omega arith))
    by_number (suc d) u h = rw (lt-ltb 0 (suc d) (omega arith))

preferred_shown : (n : ℕ) (best : Option Choice) (v word placed : ℕ)
    → preferred_in best (candidate v word placed) ≡ preferred_of (shown n best) (candidate v word placed)
unfolding preferred_in shown
preferred_shown n None v word placed = sym (first_preferred n v word placed)
preferred_shown n (Some c) v word placed = refl

-- one more vertex gives the next choice of the definition, whatever the tests of it say
turn_shown : (n : ℕ) (best : Option Choice) (v word placed : ℕ) (i t : Bool)
    → shown n (turned best (cond i None (cond t None (Some (candidate v word placed)))))
    ≡ cond i (shown n best) (cond t (shown n best) (preferred_of (shown n best) (candidate v word placed)))
unfolding shown turned
turn_shown n best v word placed true t = refl
turn_shown n best v word placed false true = refl
turn_shown n best v word placed false false = preferred_shown n best v word placed

preferred_below : {n : ℕ} (best : Option Choice) {v : ℕ} (word placed : ℕ) → IfSome best (λ c. c.vertex < n) → v < n
    → (preferred_in best (candidate v word placed)).vertex < n
unfolding preferred_in preferred_of candidate
preferred_below None word placed b h = h
preferred_below {n} (Some c) {v} word placed b h = by_test (comes_before (candidate v word placed) c)
  where
    by_test : (t : Bool) → (cond t (candidate v word placed) c).vertex < n
    by_test true = h
    by_test false = b

turn_below : {n : ℕ} (best : Option Choice) {v : ℕ} (word placed : ℕ) → IfSome best (λ c. c.vertex < n) → v < n
    → (i t : Bool) → IfSome (turned best (cond i None (cond t None (Some (candidate v word placed))))) (λ c. c.vertex < n)
unfolding turned
turn_below best word placed b h true t = b
turn_below best word placed b h false true = b
turn_below best word placed b h false false = preferred_below best word placed b h

-- ---- the loop over the vertices

pub record BestUpTo (n : ℕ) (adj : List ℕ) (placed : ℕ) (best : Option Choice) (k : ℕ) : Type 0 where
  pub found : shown n best ≡ best_below n adj placed k
  pub below : IfSome best (λ c. c.vertex < n)

module _ {n : ℕ} {adj : List ℕ} {placed : ℕ} where
  pub best_start : BestUpTo n adj placed None 0
  unfolding best_below shown
  best_start = record { found = refl; below = tt }

  pub best_more : {best other next : Option Choice} {k : ℕ} → BestUpTo n adj placed best k → k < n
      → other ≡ candidate_if k (get_or adj k 0) placed → next ≡ turned best other → BestUpTo n adj placed next (k + 1)
  unfolding best_below candidate_if considered_of
  best_more {best} {k = k} b h o e =
      let word = get_or adj k 0 in
      rw (e, o, add-one k)
      (record {
        found =
            turn_shown n best k word placed (eqb word 0) (eqb (bit placed k) 1)
            ∙ ap (λ (c : Choice). considered_of c k word placed) b.found;
        below = turn_below best word placed b.below h (eqb word 0) (eqb (bit placed k) 1);
      })

  -- after all vertices it is the definition's choice, whole
  pub best_whole : {best : Option Choice} {k : ℕ} → BestUpTo n adj placed best k → k ≤ n → n ≤ k → shown n best ≡ best_below n adj placed n
  best_whole b l h = b.found ∙ ap (best_below n adj placed) (le_antisymm l h)

  -- none, which the number n stands for in the definition, or a vertex
  pub best_end : {best : Option Choice} {k : ℕ} → BestUpTo n adj placed best k → k ≤ n → n ≤ k → n ≤ 64
      → let chosen = cond (leb n 64) (best_below n adj placed n).vertex n in
      MatchOption best (n ≡ chosen) (λ c. (c.vertex ≡ chosen) × (c.vertex < n))
  unfolding shown no_choice
  best_end {best} {k} b l h small = rw (le-leb n 64 small) (by_cases best (best_whole b l h) b.below)
    where
      by_cases : (best : Option Choice) → shown n best ≡ best_below n adj placed n → IfSome best (λ c. c.vertex < n)
          → MatchOption best (n ≡ (best_below n adj placed n).vertex) (λ c. (c.vertex ≡ (best_below n adj placed n).vertex) × (c.vertex < n))
      by_cases None e i = ap (λ (c : Choice). c.vertex) e
      by_cases (Some c) e i = (ap (λ (c : Choice). c.vertex) e, i)
