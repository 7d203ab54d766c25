-- The call lay: all vertices are placed, each once, and the tally is exactly the crossings of the layout that it returns.
use Prim.Native.Nat.{ℕ, zero, suc, ◌+◌, ◌-◌, ◌≤◌, ◌<◌}
use Rattle.std.proofs.Common.{le_refl, le_of_eq, arith, ◌∙◌}
use Rattle.std.proofs.Math.Decide.{ℕ_discrete}
use Rattle.std.specs.Prelude.{◌≡◌, Bool, T}
use Rattle.std.proofs.Math.Path.{refl, sym, ap, subst}
use Rattle.std.proofs.Math.Bool.{true}
use mathlib.Core.List.{List, [], ◌∷◌, ◌++◌}
use Rattle.std.proofs.Math.ListN.{length, drop, length-append}
use Rattle.model.specs.declared.Layout.{Layout}
use Rattle.model.specs.Answers.{Appended}
use Rattle.model.specs.Crossings.{crossings}
use Rattle.model.specs.Layouts.{vertex_order, weight, crossings_of, valid, carried, changed, reordered}
use Rattle.model.specs.GreedyAppend.{unplaced, waiting, isolated, has_edges, next_vertex, closing, open', front_crossings, back_crossings}
use Rattle.model.specs.GreedyAppend.{Placing, alone, place_front, place_back, place_vertex, place_more, place_at_back, place_linked, place_all}
use Rattle.model.specs.GreedyAppend.{former_place_all, lay_checks, lay_answer, lay_refused, lay_of}
use Rattle.laws.specs.Sums.Lists.{All, also, keep_split}
use Rattle.laws.specs.Orders.Permutations.{Permutation}
use Rattle.laws.specs.Sums.Pairs.{Symmetric}
use Rattle.laws.specs.Layouts.Validity.{valid_symmetric}
use Rattle.laws.specs.Layouts.Sizes.{Sized, reordered_sized}
use Rattle.laws.specs.Layouts.Refusals.{checked_either, vertex_passed}
use Rattle.laws.specs.Layouts.Reordering.{reordered_crossings, reordered_valid, Keeps, same_keeps}
use Rattle.laws.proofs.Layouts.Reordering.{changed_keeps}
use Rattle.laws.specs.Append.Order.{placed_back, placed_front, placed_count}
use Rattle.laws.specs.Append.Order.{Waiting, all_waiting, next_waiting, waiting_rest, waiting_others}
use Rattle.laws.specs.Append.Order.{unplaced_but, unplaced_front, unplaced_back}
use Rattle.laws.specs.Append.Crossings.{crossings_met, met_back, met_front, closing_edges}
use Rattle.laws.specs.Append.Calls.{open_to, either_end, step_waiting, Laid, laid_start, laid_permutation, laid_tally, laid_out, lay_passed, lay_accepted, lay_refused_lem}

module _ {n : ℕ} (W : ℕ → ℕ → ℕ) (symmetry : Symmetric n W) where
  module _ {m : ℕ} {s : Placing} (laid : Laid n W m s) {p : ℕ → Bool} {v : ℕ} (w : Waiting n p s.placed v) where
    -- one vertex more, at either end
    laid_front : Laid n W (suc m) (place_front n W s v)
    unfolding place_front front_crossings closing open'
    laid_front =
        record {
          order = placed_front laid.order w.below w.free;
          size = ap suc laid.size;
          tallied =
              ap (λ (t : ℕ). t + front_crossings n W s.placed v) laid.tallied
              ∙ sym
              (met_front W v (open_to W (unplaced n s.placed)) (open_to W (unplaced_but n s.placed v))
              (closing_edges symmetry w.below w.free laid.order.below))
              ∙ ap (λ (us : List ℕ). crossings_met W (open_to W us) (v ∷ s.placed)) (sym (unplaced_front n s.placed v));
        }

    laid_back : Laid n W (suc m) (place_back n W s v)
    unfolding place_back back_crossings closing open'
    laid_back =
        record {
          order = placed_back laid.order w.below w.free;
          size = length-append s.placed (v ∷ []) ∙ omega (arith, laid.size);
          tallied =
              ap (λ (t : ℕ). t + back_crossings n W s.placed v) laid.tallied
              ∙ sym
              (met_back W v (open_to W (unplaced n s.placed)) (open_to W (unplaced_but n s.placed v))
              (closing_edges symmetry w.below w.free laid.order.below))
              ∙ ap (λ (us : List ℕ). crossings_met W (open_to W us) (s.placed ++ (v ∷ []))) (sym (unplaced_back n s.placed v));
        }

  -- k steps place k more of those that pass
  pub laid_more : (adj : List ℕ) (p : ℕ → Bool) (k : ℕ) {m : ℕ} {s : Placing} → k ≤ length (waiting n p s.placed) → Laid n W m s
      → Laid n W (m + k) (place_more n adj W p k s) × (length (waiting n p (place_more n adj W p k s).placed) + k ≡ length (waiting n p s.placed))
  unfolding place_more
  laid_more adj p zero {m} {s} h laid = (subst (λ (j : ℕ). Laid n W j s) (omega arith) laid, omega arith)
  laid_more adj p (suc k) {m} {s} h laid =
      let v = next_vertex n adj s.placed (waiting n p s.placed) in
      let w = next_waiting n p s.placed adj (omega arith) in
      let less = step_waiting n W s w in
      let more = laid_more adj p k (omega (arith, less)) (either_end n W (Laid n W (suc m)) s v (laid_front laid w) (laid_back laid w)) in
      (subst (λ (j : ℕ). Laid n W j (place_more n adj W p k (place_vertex n W s v))) (omega arith) more.0, omega (arith, less, more.1))

  -- those that pass, put at the back in turn
  laid_at_back : (p : ℕ → Bool) {m : ℕ} {s : Placing} → Laid n W m s → (vs : List ℕ) → waiting n p s.placed ≡ vs
      → Laid n W (m + length vs) (place_at_back n W s vs)
  unfolding place_at_back place_back
  laid_at_back p {m} {s} laid [] e = subst (λ (j : ℕ). Laid n W j s) (omega arith) laid
  laid_at_back p {m} {s} laid (v ∷ vs) e =
      let w = first (subst (All (Waiting n p s.placed)) e (all_waiting n p s.placed)) in
      subst (λ (j : ℕ). Laid n W j (place_at_back n W (place_back n W s v) vs)) (omega arith)
      (laid_at_back p {m = suc m} {s = place_back n W s v} (laid_back laid w) vs (waiting_rest w (s.placed ++ (v ∷ [])) (unplaced_back n s.placed v) e))
    where
      first : {P : ℕ → Type 0} {x : ℕ} {xs : List ℕ} → All P (x ∷ xs) → P x
      first (also q qs) = q

  module _ (adj : List ℕ) (s : ℕ) (h : s < n) where
    -- those with edges are placed, and then the isolated ones are all that are left
    pub laid_all : Laid n W n (place_all n adj W s)
    unfolding place_all place_linked alone has_edges waiting
    laid_all =
        let others = length (waiting n (has_edges adj) (s ∷ [])) in
        let linked = laid_more adj (has_edges adj) others (le_refl others) (laid_start n W s h) in
        let left = (place_linked n adj W s).placed in
        subst (λ (j : ℕ). Laid n W j (place_all n adj W s))
        (omega (arith, linked.1, linked.0.size, keep_split (isolated adj) (unplaced n left), placed_count linked.0.order))
        (laid_at_back (isolated adj) linked.0 (waiting n (isolated adj) left) refl)

    -- by the former rule too
    pub former_laid_all : Laid n W n (former_place_all n adj W s)
    unfolding former_place_all waiting alone
    former_laid_all =
        subst (λ (j : ℕ). Laid n W j (former_place_all n adj W s)) (omega arith)
        (laid_more adj (λ v. true) (n - 1) (le_of_eq (waiting_others h)) (laid_start n W s h)).0

-- ---- the call lay

module _ (l : Layout) (s : ℕ) where
  module _ (t : T (valid l)) (h : s < l.n) where
    pub lay_permutation : Permutation l.n (laid_out l s).placed
    lay_permutation = laid_permutation (laid_all (weight l) (valid_symmetric l t) l.adjacency s h)

    pub lay_valid : T (valid (reordered l (laid_out l s).placed))
    lay_valid = reordered_valid l (laid_out l s).placed t lay_permutation

    -- the tally is the crossings of the list, and so of the layout with this order
    pub lay_met : (laid_out l s).tally ≡ crossings l.n (laid_out l s).placed (weight l)
    lay_met = let symmetry = valid_symmetric l t in laid_tally (laid_all (weight l) symmetry l.adjacency s h) symmetry

    pub lay_crossings : (laid_out l s).tally ≡ crossings_of (reordered l (laid_out l s).placed)
    lay_crossings = lay_met ∙ sym (reordered_crossings l (laid_out l s).placed lay_permutation.size)

  module _ (e : (lay_of l s).refusal ≡ 0) where
    -- the tally of an accepted lay is the crossings of the layout that it returns, isolated vertices included (document 02, Note 6)
    pub lay_tally : (lay_of l s).tally ≡ crossings_of (lay_of l s).layout
    lay_tally = let passed = lay_passed l s e in rw (lay_accepted l s passed.0 passed.1) (lay_crossings passed.0 passed.1)

    -- so the carried count changes by the tally less the crossings before
    pub lay_count : (lay_of l s).layout.count ≡ carried l.count (crossings_of l) (lay_of l s).tally
    unfolding reordered changed crossings_of vertex_order weight
    lay_count =
        let passed = lay_passed l s e in
        rw (lay_accepted l s passed.0 passed.1) (ap (carried l.count (crossings_of l)) (sym (lay_crossings passed.0 passed.1)))

  pub lay_keeps : Keeps l (lay_of l s).layout
  unfolding reordered
  lay_keeps =
      elim (ℕ_discrete (lay_of l s).refusal 0) [
        | yes e ↦
            let passed = lay_passed l s e in
            rw (lay_accepted l s passed.0 passed.1)
            (changed_keeps l l.n ((laid_out l s).placed ++ drop l.n l.order) l.adjacency l.weights (lay_valid passed.0 passed.1))
        | no d ↦ same_keeps (ap (λ (a : Appended). a.layout) (lay_refused_lem l s d))
      ]

-- the arrays keep their places
pub lay_sized : (l : Layout) → Sized l → (u : ℕ) → Sized (lay_of l u).layout
unfolding lay_of lay_checks
lay_sized l s u =
    checked_either (lay_checks l u) (lay_answer l (laid_out l u)) (lay_refused l) (λ (a : Appended). Sized a.layout)
    (λ e. (let p = vertex_passed l u e in reordered_sized l s _ p.0 (lay_permutation l u p.0 p.1))) (λ k. s)
