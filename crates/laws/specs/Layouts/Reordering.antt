-- A valid layout with another order, its carried count, and the call move.
use Rattle.std.specs.Prelude.{ℕ, ◌-◌, ◌≤◌, ◌<◌, ◌≡◌, refl, length, T}
use Rattle.std.proofs.Common.{add-sub_of_le, arith, ◌∙◌, subst}
use Rattle.std.proofs.Math.Path.{sym, ap}
use mathlib.Core.List.{List, ◌++◌}
use Rattle.std.proofs.Math.ListN.{drop}
use Rattle.std.proofs.Math.Seq.{length_front, get_or-drop, take_at}
use Rattle.model.specs.declared.Layout.{Layout}
use Rattle.model.specs.Answers.{Changed}
use Rattle.model.specs.Crossings.{crossings}
use Rattle.model.specs.Layouts.{vertex_order, weight, crossings_of, valid, modulus, carried, changed, reordered}
use Rattle.model.specs.Checks.{refusal}
use Rattle.model.specs.Edits.{changed_to, change_refused, moved_after, move_checks, move_of}
use Rattle.laws.specs.Orders.Permutations.{at, Permutation}
use Rattle.laws.specs.Layouts.Refusals.{passed_pair}
use Rattle.laws.specs.Layouts.Refusals.{changed_number, changed_accepted, changed_refused}
use Rattle.laws.specs.Layouts.Validity.{sound, sound_valid}
use Rattle.laws.specs.Orders.Moves.{at_right, moved_permutation}

-- ---- a valid layout with another order

module _ (l : Layout) (o : List ℕ) where
  pub reordered_order : length o ≡ l.n → vertex_order (reordered l o) ≡ o
  unfolding reordered changed vertex_order
  reordered_order e = take_at o (drop l.n l.order) l.n e

  pub reordered_crossings : length o ≡ l.n → crossings_of (reordered l o) ≡ crossings l.n o (weight l)
  unfolding reordered changed crossings_of weight
  reordered_crossings e = ap (λ (x : List ℕ). crossings l.n x (weight l)) (reordered_order e)

  pub reordered_valid : T (valid l) → Permutation l.n o → T (valid (reordered l o))
  unfolding reordered changed weight
  reordered_valid t perm =
      let s = sound l t in
      sound_valid (reordered l o)
      (record {
        small = s.small;
        permutation = rw (reordered_order perm.size) perm;
        places = λ i h b. unused i h ∙ s.places i h b;
        words = s.words;
        bits = s.bits;
        unused = s.unused;
        fits = s.fits;
      })
    where
      unused : (i : ℕ) → l.n ≤ i → at (o ++ drop l.n l.order) i ≡ at l.order i
      unused i h =
          ap (at (o ++ drop l.n l.order)) (sym (add-sub_of_le h))
          ∙ at_right o (drop l.n l.order) l.n (i - l.n) perm.size
          ∙ get_or-drop l.n l.order (i - l.n) 0
          ∙ ap (at l.order) (add-sub_of_le h)

-- with as many places
pub reordered_length : (l : Layout) (o : List ℕ) → T (valid l) → Permutation l.n o → length (reordered l o).order ≡ length l.order
unfolding reordered changed vertex_order
reordered_length l o t perm = length_front l.order o l.n (perm.size ∙ sym (sound l t).permutation.size)

-- ---- the carried count

-- a right count stays right
pub carried_right : (before after : ℕ) → before < modulus → after < modulus → carried before before after ≡ after
unfolding carried
carried_right before after h l = omega arith

-- two changes, one after the other, are one
pub carried_carried : (count before between after : ℕ) → carried (carried count before between) between after ≡ carried count before after
unfolding carried
carried_carried count before between after = omega arith

pub carried_lt : (count before after : ℕ) → carried count before after < modulus
unfolding carried
carried_lt count before after = omega arith

pub carried_same : (count before : ℕ) → count < modulus → carried count before before ≡ count
unfolding carried
carried_same count before h = omega arith

-- the count of a layout is its crossings
abbrev pub CountRight : Layout → Type 0
CountRight l = l.count ≡ crossings_of l

-- a call that returns m for l leaves a valid layout valid, and a right count right
abbrev pub Keeps : Layout → Layout → Type 0
Keeps l m = T (valid l) → T (valid m) × (CountRight l → CountRight m)

pub same_keeps : {l m : Layout} → m ≡ l → Keeps l m
same_keeps e t = (subst (λ (k : Layout). T (valid k)) (sym e) t, λ c. subst (λ (k : Layout). CountRight k) (sym e) c)

-- ---- the call move

module _ (l : Layout) (a b : ℕ) where
  abbrev pub moved_layout : Layout
  moved_layout = reordered l (moved_after a b (vertex_order l))

  move_number : (move_of l a b).refusal ≡ refusal (move_checks l a b)
  unfolding move_of
  move_number = changed_number l (move_checks l a b) moved_layout

  -- a move of two different vertices is accepted
  pub move_accepted : T (valid l) → a < l.n → b < l.n → (a ≡ b → ⊥) → move_of l a b ≡ changed_to moved_layout
  unfolding move_of
  move_accepted t h k d =
      sym (changed_accepted l (move_checks l a b) moved_layout (passed_pair l a b (record { is_valid_lem = t; first = h; second = k; different = d })) refl)

  pub move_refused : ((move_of l a b).refusal ≡ 0 → ⊥) → move_of l a b ≡ change_refused l (move_of l a b).refusal
  unfolding move_of
  move_refused d = sym (changed_refused l (move_checks l a b) moved_layout move_number d)

-- the layout that an accepted move gives
module _ (l : Layout) (t : T (valid l)) (a : ℕ) (h : a < l.n) (b : ℕ) (k : b < l.n) (d : a ≡ b → ⊥) where
  pub move_layout : (move_of l a b).layout ≡ moved_layout l a b
  move_layout = ap (λ (c : Changed). c.layout) (move_accepted l a b t h k d)

  pub move_valid : T (valid (moved_layout l a b))
  move_valid = reordered_valid l (moved_after a b (vertex_order l)) t (moved_permutation (sound l t).permutation a h b k d)

  pub move_crossings : crossings_of (move_of l a b).layout ≡ crossings l.n (moved_after a b (vertex_order l)) (weight l)
  move_crossings =
      ap crossings_of move_layout
      ∙ reordered_crossings l (moved_after a b (vertex_order l)) (moved_permutation (sound l t).permutation a h b k d).size
