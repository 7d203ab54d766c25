-- The calls add, link and unlink: a refused one changes nothing, and they keep a valid layout valid and a right count right, where the arrays have
-- their places.
use Rattle.std.specs.Prelude.{ℕ, ◌<◌, ◌≡◌, T}
use Rattle.std.proofs.Common.{arith}
use Rattle.std.proofs.Math.Path.{refl, sym}
use mathlib.Core.List.{[], ◌∷◌}
use borrow.Author.Tests.{ltb-true}
use Rattle.model.specs.declared.Layout.{Layout}
use Rattle.model.specs.Answers.{Added}
use Rattle.model.specs.Layouts.{capacity, valid}
use Rattle.model.specs.Checks.{refusal, has_room}
use Rattle.model.specs.Edits.{add_checks, add_answer, add_refused, add_of, change_refused}
use Rattle.model.specs.Edits.{with_bit, without_bit, at_both_ends, both_ways, with_edges, link_checks, link_of, unlink_checks, unlink_of}
use Rattle.laws.specs.Layouts.Refusals.{passed, valid_passed, when_refused, checked_number}
use Rattle.laws.specs.Layouts.Refusals.{changed_number, changed_refused}

-- ---- add

module _ (l : Layout) where
  add_number : (add_of l).refusal ≡ refusal (add_checks l)
  unfolding add_of
  add_number = checked_number (add_checks l) (add_answer l) (add_refused l) (λ (a : Added). a.refusal) refl (λ r. refl)

  pub room_passed : refusal (add_checks l) ≡ 0 → T (valid l) × (l.n < capacity)
  unfolding add_checks has_room
  room_passed e =
      let first = valid_passed l (has_room l ∷ []) e in
      (first.0, ltb-true l.n capacity (passed (has_room l) [] (omega arith) first.1).passes)

  pub add_refused_lem : ((add_of l).refusal ≡ 0 → ⊥) → add_of l ≡ add_refused l (add_of l).refusal
  unfolding add_of
  add_refused_lem d = when_refused (add_checks l) (add_answer l) (add_refused l) add_number d

-- ---- link and unlink

module _ (l : Layout) (a b : ℕ) where
  abbrev pub linked_layout : ℕ → Layout
  linked_layout w = with_edges l (at_both_ends with_bit l.adjacency a b) (both_ways l.weights a b w)

  link_number : (w : ℕ) → (link_of l a b w).refusal ≡ refusal (link_checks l a b w)
  unfolding link_of
  link_number w = changed_number l (link_checks l a b w) (linked_layout w)

  pub link_refused : (w : ℕ) → ((link_of l a b w).refusal ≡ 0 → ⊥) → link_of l a b w ≡ change_refused l (link_of l a b w).refusal
  unfolding link_of
  link_refused w d = sym (changed_refused l (link_checks l a b w) (linked_layout w) (link_number w) d)

  abbrev pub unlinked_layout : Layout
  unlinked_layout = with_edges l (at_both_ends without_bit l.adjacency a b) (both_ways l.weights a b 0)

  unlink_number : (unlink_of l a b).refusal ≡ refusal (unlink_checks l a b)
  unfolding unlink_of
  unlink_number = changed_number l (unlink_checks l a b) unlinked_layout

  pub unlink_refused : ((unlink_of l a b).refusal ≡ 0 → ⊥) → unlink_of l a b ≡ change_refused l (unlink_of l a b).refusal
  unfolding unlink_of
  unlink_refused d = sym (changed_refused l (unlink_checks l a b) unlinked_layout unlink_number d)
