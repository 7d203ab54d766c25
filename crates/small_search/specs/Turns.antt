-- The search of the rest, case by case: what is left out, an order that is complete, and the loop over the vertices.
use Prim.Native.Nat.{ℕ, zero, suc, ◌+◌, ◌-◌, ◌≤◌, ◌<◌}
use Rattle.std.proofs.Math.Nat.{le_refl, le_trans}
use Rattle.std.proofs.Common.{add-one, ◌∙◌, subst, le-leb}
use native.Mathlib.Omega.{arith}
use Rattle.std.specs.Prelude.{◌≡◌, Bool, not}
use Rattle.std.proofs.Math.Path.{refl, sym, ap, ap₂}
use Rattle.std.proofs.Math.Bool.{true, false, cond}
use mathlib.Core.List.{List, [], ◌∷◌, ◌++◌, flat_map}
use Rattle.std.proofs.Math.ListN.{take}
use Rattle.std.proofs.lemmas.Bool.{lt-leb}
use Rattle.model.specs.Lists.{upto, keep, first_with, sum_pairs, member}
use Rattle.model.specs.Crossings.{crossings, weighted_edges}
use Rattle.model.specs.GreedyAppend.{unplaced, back_crossings}
use Rattle.model.specs.Search.{least}
use Rattle.model.specs.SmallOrders.{all_orders, least_of_all, first_least}
use Rattle.laws.specs.Sums.Pairs.{Symmetric}
use Rattle.laws.specs.Orders.Permutations.{at_lt, upto_permutation}
use Rattle.laws.specs.Crossings.Edges.{crossings_sum}
use Rattle.laws.specs.Crossings.Counting.{placed}
use Rattle.laws.proofs.Crossings.Bound.{crossing_sum_bound}
use Rattle.laws.specs.Tables.Rows.{table_weight}
use Rattle.laws.specs.Append.Order.{unplaced_next}
use Rattle.laws.specs.Small.Search.{Best, in_turn, search_rest}
use Rattle.laws.proofs.Small.Search.{search_answer}
use Rattle.small_prefix.specs.declared.Prefix.{Prefix}
use Rattle.small_prefix.specs.Prefixes.{entries, all_entries}
use Rattle.small_search.specs.declared.Branch.{Branch}
use Rattle.small_search.specs.declared.Found.{Found}
use Rattle.small_search.specs.Branches.{most, found_in, least_found, Graph, Begins, Extends, Underway, entries_are, met_are}

-- the definition's step, with k vertices to come behind v
unfoldable pub step_at : ℕ → (ℕ → ℕ → ℕ) → ℕ → List ℕ → ℕ → Best → ℕ → Best
step_at n W k xs met b v = search_rest n W k (xs ++ (v ∷ [])) (met + back_crossings n W xs v) b

-- ---- the search, case by case

module _ (n : ℕ) (W : ℕ → ℕ → ℕ) (xs : List ℕ) (met : ℕ) (b : Best) where
  search_cut : (k : ℕ) → b.count ≤ met → search_rest n W k xs met b ≡ b
  unfolding search_rest
  search_cut zero h = rw (le-leb b.count met h)
  search_cut (suc k) h = rw (le-leb b.count met h)

  search_leaf : {k : ℕ} → k ≡ 0 → met < b.count → search_rest n W k xs met b ≡ record { count = met; order = xs }
  unfolding search_rest
  search_leaf e h = ap (λ (k : ℕ). search_rest n W k xs met b) e ∙ rw (lt-leb b.count met h)

  search_inner : (k : ℕ) → 0 < k → met < b.count
      → search_rest n W k xs met b ≡ in_turn (step_at n W (k - 1) xs met) b (unplaced n xs)
  unfolding search_rest step_at
  search_inner zero l h = absurd (omega arith)
  search_inner (suc k) l h = rw (lt-leb b.count met h) (ap (λ (j : ℕ). in_turn (step_at n W j xs met) b (unplaced n xs)) less)
    where
      less : k ≡ suc k - 1
      less = omega arith

-- ---- the loop over the vertices

in_turn_append : (step : Best → ℕ → Best) (b : Best) (us ws : List ℕ) → in_turn step b (us ++ ws) ≡ in_turn step (in_turn step b us) ws
unfolding in_turn
in_turn_append step b [] ws = refl
in_turn_append step b (u ∷ us) ws = in_turn_append step (step b u) us ws

pub record TurnsUpTo (n : ℕ) (step : Best → ℕ → Best) (xs : List ℕ) (first found : Found) (v : ℕ) : Type 0 where
  pub inside : v ≤ n
  pub turned : found_in n found ≡ in_turn step (found_in n first) (unplaced v xs)
  pub low : found.least ≤ first.least

module _ {n : ℕ} {step : Best → ℕ → Best} {xs : List ℕ} {first : Found} where
  pub turns_start : TurnsUpTo n step xs first first 0
  unfolding unplaced upto keep in_turn
  turns_start = record { inside = omega arith; turned = refl; low = le_refl first.least }

  pub turns_next : {found next : Found} {v : ℕ} → TurnsUpTo n step xs first found v → v < n
      → found_in n next ≡ cond (member v xs) (found_in n found) (step (found_in n found) v) → next.least ≤ found.least
      → TurnsUpTo n step xs first next (v + 1)
  unfolding in_turn
  turns_next {found} {next} {v} t h e l =
      rw (add-one v)
      (record {
        inside = h;
        turned =
            e ∙ by_test (member v xs)
            ∙ ap (λ (b : Best). in_turn step b (cond (not (member v xs)) (v ∷ []) [])) t.turned
            ∙ sym (ap (in_turn step (found_in n first)) (unplaced_next v xs)
            ∙ in_turn_append step (found_in n first) (unplaced v xs) (cond (not (member v xs)) (v ∷ []) []));
        low = le_trans l t.low;
      })
    where
      by_test : (m : Bool) → cond m (found_in n found) (step (found_in n found) v) ≡ in_turn step (found_in n found) (cond (not m) (v ∷ []) [])
      by_test true = refl
      by_test false = refl

  turns_end : {found : Found} {v : ℕ} → TurnsUpTo n step xs first found v → n ≤ v → found_in n found ≡ in_turn step (found_in n first) (unplaced n xs)
  turns_end {found} {v} t h = t.turned ∙ ap (λ (k : ℕ). in_turn step (found_in n first) (unplaced k xs)) last
    where
      last : v ≡ n
      last = omega (arith, t.inside)

-- ---- the ways out

module _ {n left : ℕ} {ws : List ℕ} {b : Branch} (u : Underway n left ws b) (best : Found) where
  abbrev searched : Best
  searched = search_rest n (table_weight ws) left (entries b.prefix) b.met (found_in n best)

  pub cut_right : best.least ≤ b.met → found_in n best ≡ searched
  unfolding found_in
  cut_right h = sym (search_cut n (table_weight ws) (entries b.prefix) b.met (found_in n best) left h)

  module _ (h : b.met < best.least) where
    pub leaf_right : left ≡ 0 → found_in n (record { least = b.met; order = b.prefix.places }) ≡ searched
    unfolding found_in
    leaf_right e =
        ap (λ (k : ℕ). record { count = b.met; order = take k b.prefix.places }) (all_entries u.ready e)
        ∙ sym (search_leaf n (table_weight ws) (entries b.prefix) b.met (found_in n best) e h)

    pub inner_right : {found : Found} {v : ℕ} → 0 < left
        → TurnsUpTo n (step_at n (table_weight ws) (left - 1) (entries b.prefix) b.met) (entries b.prefix) best found v → n ≤ v
        → found_in n found ≡ searched
    unfolding found_in
    inner_right l t k = turns_end t k ∙ sym (search_inner n (table_weight ws) (entries b.prefix) b.met (found_in n best) left l h)

  -- v is next: what the search of the rest gives
  pub next_answered : Graph n ws → {v : ℕ} → v < n → 0 < left → member v (entries b.prefix) ≡ false → {r : Branch} {f : Best} → Extends ws b v r
      → f ≡ search_rest n (table_weight r.edges.weights.now) (left - 1) (entries r.prefix) r.met (found_in n best)
      → f ≡ cond (member v (entries b.prefix)) (found_in n best)
      (step_at n (table_weight ws) (left - 1) (entries b.prefix) b.met (found_in n best) v)
  unfolding step_at
  next_answered g h some out {r} e s =
      rw out
      (s ∙ ap (λ (k : List ℕ). search_rest n (table_weight k) (left - 1) (entries r.prefix) r.met (found_in n best)) e.weights_are
      ∙ ap₂ (λ (xs : List ℕ) (k : ℕ). search_rest n (table_weight ws) (left - 1) xs k (found_in n best)) (entries_are g u h some out e)
      (met_are g u h some out e))

-- ---- the whole

-- of no vertices there is one order, without crossings
pub none_right : {n : ℕ} (W : ℕ → ℕ → ℕ) (order : List ℕ) → n ≡ 0 → found_in n (record { least = 0; order = order }) ≡ least_found n W
unfolding found_in least_found least_of_all first_least all_orders least first_with crossings weighted_edges upto sum_pairs flat_map
none_right W order e = subst (λ (k : ℕ). found_in k (record { least = 0; order = order }) ≡ least_found k W) (sym e) refl

module _ {n : ℕ} {ws : List ℕ} (g : Graph n ws) (some : 0 < n) where
  -- no order has so many crossings
  few : crossings n (upto n) (table_weight ws) < most
  few =
      omega (
        arith,
        crossings_sum (upto_permutation n) (table_weight ws) g.symmetry,
        crossing_sum_bound n 255 (placed (upto n) (table_weight ws)) (omega (arith, g.small)) light,
      )
    where
      light : (i j : ℕ) → i < j → j < n → placed (upto n) (table_weight ws) i j ≤ 255
      light i j a b = g.light _ _ (at_lt (upto_permutation n) i (omega arith)) (at_lt (upto_permutation n) j b)

  -- from vertex 0 alone
  pub answered : {b : Branch} {f : Best} (order : List ℕ) → Begins ws b
      → f ≡ search_rest n (table_weight b.edges.weights.now) (n - 1) (entries b.prefix) b.met (found_in n (record { least = most; order = order }))
      → f ≡ least_found n (table_weight ws)
  unfolding least_found found_in
  answered {b} order s e =
      e
      ∙ ap (λ (k : List ℕ). search_rest n (table_weight k) (n - 1) (entries b.prefix) b.met (record { count = most; order = take n order })) s.weights_are
      ∙ ap₂ (λ (p : Prefix) (k : ℕ). search_rest n (table_weight ws) (n - 1) (entries p) k (record { count = most; order = take n order }))
      s.prefix_is s.met_is
      ∙ by_number n some g.symmetry few
    where
      by_number : (n : ℕ) → 0 < n → Symmetric n (table_weight ws) → crossings n (upto n) (table_weight ws) < most
          → search_rest n (table_weight ws) (n - 1) (0 ∷ []) 0 (record { count = most; order = take n order }) ≡ least_found n (table_weight ws)
      by_number zero h t k = absurd (omega arith)
      by_number (suc m) h t k =
          ap (λ (j : ℕ). search_rest (suc m) (table_weight ws) j (0 ∷ []) 0 (record { count = most; order = take (suc m) order })) less
          ∙ search_answer m (table_weight ws) t most (take (suc m) order) k
        where
          less : suc m - 1 ≡ m
          less = omega arith
