-- The arrays of a layout have their 64 places, and the edits keep that.
use Rattle.std.specs.Prelude.{ℕ, ◌≡◌, refl, List, length, T}
use Rattle.std.proofs.Common.{◌∙◌, length-set}
use Rattle.std.proofs.lemmas.List.{length-replicate}
use Rattle.model.specs.declared.Layout.{Layout}
use Rattle.model.specs.Answers.{Added}
use Rattle.model.specs.Layouts.{capacity, table_places, empty_layout, valid, changed, reordered}
use Rattle.model.specs.Edits.{added, add_checks, add_answer, add_refused, add_of, move_checks, move_of}
use Rattle.model.specs.Edits.{with_bit, without_bit, at_both_ends, both_ways, with_edges, link_checks, link_of, unlink_checks, unlink_of}
use Rattle.laws.specs.Orders.Permutations.{Permutation}
use Rattle.laws.specs.Orders.Moves.{moved_permutation}
use Rattle.laws.specs.Layouts.Refusals.{pair_passed, checked_either, changed_either}
use Rattle.laws.specs.Layouts.Validity.{sound}
use Rattle.laws.specs.Layouts.Reordering.{moved_layout, reordered_length}

-- `valid` does not ask for it: in a list of fewer places, writing behind the end changes nothing, and an added vertex would be missing
pub record Sized (l : Layout) : Type 0 where
  pub places : length l.order ≡ capacity
  pub words : length l.adjacency ≡ capacity
  pub table : length l.weights ≡ table_places

-- ---- the layouts that the calls start from

pub empty_sized : Sized empty_layout
unfolding empty_layout
empty_sized = record { places = refl; words = refl; table = length-replicate {A = ℕ} table_places 0 }

-- ---- a vertex more, and other edges

pub add_sized : (l : Layout) → Sized l → Sized (add_of l).layout
unfolding add_of added changed
add_sized l s =
    checked_either (add_checks l) (add_answer l) (add_refused l) (λ (a : Added). Sized a.layout)
    (λ e. record { places = length-set l.order l.n l.n ∙ s.places; words = s.words; table = s.table }) (λ k. s)

edges_sized : (f : ℕ → ℕ → ℕ) (l : Layout) (a b w : ℕ) → Sized l → Sized (with_edges l (at_both_ends f l.adjacency a b) (both_ways l.weights a b w))
unfolding with_edges changed at_both_ends both_ways
edges_sized f l a b w s = record { places = s.places; words = simp length-set s.words; table = simp length-set s.table }

module _ (l : Layout) (a b : ℕ) (s : Sized l) where
  pub link_sized : (w : ℕ) → Sized (link_of l a b w).layout
  unfolding link_of
  link_sized w =
      changed_either l (link_checks l a b w) (with_edges l (at_both_ends with_bit l.adjacency a b) (both_ways l.weights a b w)) Sized
      (λ e. edges_sized with_bit l a b w s) s

  pub unlink_sized : Sized (unlink_of l a b).layout
  unfolding unlink_of
  unlink_sized =
      changed_either l (unlink_checks l a b) (with_edges l (at_both_ends without_bit l.adjacency a b) (both_ways l.weights a b 0)) Sized
      (λ e. edges_sized without_bit l a b 0 s) s

-- ---- another order

module _ (l : Layout) (s : Sized l) where
  pub reordered_sized : (o : List ℕ) → T (valid l) → Permutation l.n o → Sized (reordered l o)
  unfolding reordered changed
  reordered_sized o t perm = record { places = reordered_length l o t perm ∙ s.places; words = s.words; table = s.table }

  pub move_sized : (a b : ℕ) → Sized (move_of l a b).layout
  unfolding move_of
  move_sized a b =
      changed_either l (move_checks l a b) (moved_layout l a b) Sized
      (λ e.
      (let p = pair_passed l a b e in
      reordered_sized _ p.is_valid_lem (moved_permutation (sound l p.is_valid_lem).permutation a p.first b p.second p.different)))
      s
