-- The call lay: what an accepted one may count on. That its list holds each vertex once, and that its tally is exactly the crossings of the layout that it
-- returns, is proved in proofs/Append/Calls.antt.
use Prim.Native.Nat.{ℕ, suc, ◌<◌}
use Rattle.std.proofs.Common.{arith, ◌∙◌, lt→ltb}
use Rattle.std.specs.Prelude.{◌≡◌, Bool, cond, T, ltb}
use Rattle.std.proofs.Math.Path.{refl, sym, ap}
use Rattle.std.proofs.Math.Bool.{true, false}
use mathlib.Core.List.{List, [], ◌∷◌}
use Rattle.std.proofs.Math.ListN.{length}
use Rattle.model.specs.declared.Layout.{Layout}
use Rattle.model.specs.Answers.{Appended}
use Rattle.model.specs.Lists.{sum_over}
use Rattle.model.specs.Crossings.{crossings}
use Rattle.model.specs.Layouts.{weight, valid}
use Rattle.model.specs.Checks.{refusal, is_valid, is_vertex}
use Rattle.model.specs.GreedyAppend.{unplaced, waiting, front_crossings, back_crossings}
use Rattle.model.specs.GreedyAppend.{Placing, alone, place_front, place_back, place_vertex, place_all}
use Rattle.model.specs.GreedyAppend.{lay_checks, lay_answer, lay_refused, lay_of}
use Rattle.laws.specs.Sums.Lists.{none, also}
use Rattle.laws.specs.Orders.Permutations.{Permutation}
use Rattle.laws.specs.Sums.Pairs.{Symmetric}
use Rattle.laws.specs.Crossings.Counting.{crossing_sum, placed}
use Rattle.laws.specs.Crossings.Edges.{crossings_sum}
use Rattle.laws.specs.Layouts.Refusals.{vertex_passed, all_passed, when_accepted, when_refused, checked_number}
use Rattle.laws.specs.Append.Order.{Placed, placed_start, placed_all, all_placed}
use Rattle.laws.specs.Append.Order.{Waiting, waiting_less}
use Rattle.laws.specs.Append.Order.{unplaced_but, unplaced_front, unplaced_back}
use Rattle.laws.specs.Append.Crossings.{crossings_met, met_start, met_finished}

-- the weight of the edges from b to the vertices us
abbrev pub open_to : (ℕ → ℕ → ℕ) → List ℕ → ℕ → ℕ
open_to W us b = sum_over (W b) us

module _ (n : ℕ) (W : ℕ → ℕ → ℕ) where
  -- what holds at either end holds at the one that is taken
  pub either_end : (P : Placing → Type 0) (s : Placing) (v : ℕ) → P (place_front n W s v) → P (place_back n W s v) → P (place_vertex n W s v)
  unfolding place_vertex
  either_end P s v front back = by_test (ltb (front_crossings n W s.placed v) (back_crossings n W s.placed v))
    where
      by_test : (b : Bool) → P (cond b (place_front n W s v) (place_back n W s v))
      by_test true = front
      by_test false = back

  -- the others are still to come
  step_unplaced : (s : Placing) (v : ℕ) → unplaced n (place_vertex n W s v).placed ≡ unplaced_but n s.placed v
  unfolding place_front place_back
  step_unplaced s v =
      either_end (λ t. unplaced n t.placed ≡ unplaced_but n s.placed v) s v (unplaced_front n s.placed v) (unplaced_back n s.placed v)

  -- so of those that pass one less waits
  pub step_waiting : {p : ℕ → Bool} (s : Placing) {v : ℕ} → Waiting n p s.placed v
      → suc (length (waiting n p (place_vertex n W s v).placed)) ≡ length (waiting n p s.placed)
  step_waiting s {v} w = omega (arith, waiting_less w (place_vertex n W s v).placed (step_unplaced s v))

  -- m vertices are placed, and the tally is what they have met: the crossings of the edges between them, and of these with the edges to the others
  pub record Laid (m : ℕ) (s : Placing) : Type 0 where
    pub order : Placed n s.placed
    pub size : length s.placed ≡ m
    pub tallied : s.tally ≡ crossings_met W (open_to W (unplaced n s.placed)) s.placed

  pub laid_start : (s : ℕ) → s < n → Laid 1 (alone s)
  unfolding alone
  laid_start s h = record { order = placed_start h; size = refl; tallied = sym (met_start W (open_to W (unplaced n (s ∷ []))) s) }

-- once all are placed, each is placed once, and the tally is exactly the crossings of the list
module _ {n : ℕ} {W : ℕ → ℕ → ℕ} {s : Placing} (laid : Laid n W n s) where
  pub laid_permutation : Permutation n s.placed
  laid_permutation = placed_all laid.order laid.size

  pub laid_tally : Symmetric n W → s.tally ≡ crossings n s.placed W
  unfolding sum_over
  laid_tally symmetry =
      laid.tallied
      ∙ met_finished W (open_to W (unplaced n s.placed)) s.placed (λ b. ap (sum_over (W b)) (all_placed laid.order laid.size))
      ∙ ap (λ (m : ℕ). crossing_sum m (placed s.placed W)) laid.size
      ∙ sym (crossings_sum laid_permutation W symmetry)

-- ---- the call lay

module _ (l : Layout) (s : ℕ) where
  -- all vertices placed, starting from s
  abbrev pub laid_out : Placing
  laid_out = place_all l.n l.adjacency (weight l) s

  lay_number : (lay_of l s).refusal ≡ refusal (lay_checks l s)
  unfolding lay_of
  lay_number = checked_number (lay_checks l s) (lay_answer l laid_out) (lay_refused l) (λ (a : Appended). a.refusal) refl (λ r. refl)

  pub lay_passed : (lay_of l s).refusal ≡ 0 → T (valid l) × (s < l.n)
  unfolding lay_checks
  lay_passed e = vertex_passed l s (sym lay_number ∙ e)

  pub lay_accepted : T (valid l) → s < l.n → lay_of l s ≡ lay_answer l laid_out
  unfolding lay_of lay_checks is_valid is_vertex
  lay_accepted t h = when_accepted (lay_checks l s) (lay_answer l laid_out) (lay_refused l) (all_passed (also t (also (lt→ltb s l.n h) none)))

  pub lay_refused_lem : ((lay_of l s).refusal ≡ 0 → ⊥) → lay_of l s ≡ lay_refused l (lay_of l s).refusal
  unfolding lay_of
  lay_refused_lem d = when_refused (lay_checks l s) (lay_answer l laid_out) (lay_refused l) lay_number d
