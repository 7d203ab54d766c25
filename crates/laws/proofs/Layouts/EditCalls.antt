-- The calls add, link and unlink keep a valid layout valid and a right count right, where the arrays have their places.
use Rattle.std.specs.Prelude.{ℕ, suc, ◌≡◌, set}
use Rattle.std.proofs.Math.Path.{refl}
use mathlib.Core.List.{List}
use Rattle.model.specs.declared.Layout.{Layout}
use Rattle.model.specs.Answers.{Added}
use Rattle.model.specs.Checks.{Check, refusal}
use Rattle.model.specs.Edits.{added, add_checks, add_answer, add_refused, add_of, changed_or}
use Rattle.model.specs.Edits.{at_both_ends, both_ways, with_edges, link_checks, link_of, unlink_checks, unlink_of}
use Rattle.laws.specs.Layouts.Refusals.{checked_either}
use Rattle.laws.specs.Layouts.Refusals.{Pair, link_pair, link_weight, unlink_pair}
use Rattle.laws.specs.Layouts.Refusals.{changed_either}
use Rattle.laws.specs.Layouts.EdgeEdits.{ChangesOne, set_changes, clear_changes, WeighsAs, set_weighs, clear_weighs, edges_valid}
use Rattle.laws.specs.Layouts.VertexEdits.{added_valid}
use Rattle.laws.specs.Layouts.Reordering.{Keeps, same_keeps}
use Rattle.laws.proofs.Layouts.Reordering.{changed_keeps}
use Rattle.laws.specs.Layouts.Sizes.{Sized}
use Rattle.laws.specs.Layouts.EditCalls.{room_passed}

-- ---- add

module _ (l : Layout) where
  pub add_keeps : Sized l → Keeps l (add_of l).layout
  unfolding add_of added
  add_keeps s =
      checked_either (add_checks l) (add_answer l) (add_refused l) (λ (a : Added). Keeps l a.layout)
      (λ e.
      (let p = room_passed l e in
      changed_keeps l (suc l.n) (set l.order l.n l.n) l.adjacency l.weights (added_valid l p.0 p.1 s.places)))
      (λ k. same_keeps refl)

-- ---- link and unlink

-- the checks cs are those of a call with two named vertices, and more, behind which the bit is x and the weight w
module _ (l : Layout) (a b : ℕ) (cs : List Check) {x w : ℕ} (pair : refusal cs ≡ 0 → Pair l a b) (weighs : refusal cs ≡ 0 → WeighsAs x w) where
  edges_keep : {f : ℕ → ℕ → ℕ} → ChangesOne f x → Sized l
      → Keeps l (changed_or l cs (with_edges l (at_both_ends f l.adjacency a b) (both_ways l.weights a b w))).layout
  unfolding with_edges
  edges_keep {f} change s =
      changed_either l cs (with_edges l (at_both_ends f l.adjacency a b) (both_ways l.weights a b w)) (Keeps l)
      (λ e.
      changed_keeps l l.n l.order (at_both_ends f l.adjacency a b) (both_ways l.weights a b w)
      (edges_valid f change (weighs e) (pair e) s.words s.table))
      (same_keeps refl)

module _ (l : Layout) (a b : ℕ) where
  pub link_keeps : (w : ℕ) → Sized l → Keeps l (link_of l a b w).layout
  unfolding link_of
  link_keeps w = edges_keep l a b (link_checks l a b w) (link_pair l a b w) (λ e. set_weighs (link_weight l a b w e)) set_changes

  pub unlink_keeps : Sized l → Keeps l (unlink_of l a b).layout
  unfolding unlink_of
  unlink_keeps = edges_keep l a b (unlink_checks l a b) (unlink_pair l a b) (λ e. clear_weighs) clear_changes
