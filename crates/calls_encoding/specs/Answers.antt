-- One answer in the table.
use Rattle.std.specs.Prelude.{ℕ, ◌+◌, ◌≤◌, ◌<◌, ◌≡◌, refl, cond, leb, List, [], ◌∷◌, ◌++◌, length, set, take}
use Rattle.std.proofs.Common.{arith, sym, ap, ◌∙◌, le-leb, drop-drop}
use Rattle.std.proofs.lemmas.Bool.{lt-leb}
use Rattle.model.specs.declared.Outcome.{Outcome}
use Rattle.model.specs.Playing.{answer_width, answer_numbers}
use Rattle.laws.specs.Buffers.Writing.{written}
use borrow.Rule.Slice.PartMut.{put_mid}

-- the table with an answer from place at on, if it has the places there
unfoldable pub with_answer : Outcome → List ℕ → ℕ → List ℕ
with_answer a table at = cond (leb (at + answer_width) (length table)) (written table at (answer_numbers a)) table

module _ (a : Outcome) (table : List ℕ) (at : ℕ) where
  pub not_answered : length table < at + answer_width → table ≡ with_answer a table at
  unfolding with_answer
  not_answered h = rw (lt-leb (at + answer_width) (length table) h)

  pub is_answered : at + answer_width ≤ length table → with_answer a table at ≡ written table at (answer_numbers a)
  unfolding with_answer
  is_answered h = rw (le-leb (at + answer_width) (length table) h)

  -- its numbers copied there
  pub numbers_copied : {k : ℕ} {xs : List ℕ} → at + answer_width ≤ length table → k ≡ answer_width → xs ≡ answer_numbers a
      → put_mid at k table xs ≡ with_answer a table at
  unfolding written answer_numbers
  numbers_copied h e copied =
      rw (e, copied)
      (ap (λ (rest : List ℕ). take at table ++ (answer_numbers a ++ rest)) (drop-drop answer_width at table) ∙ sym (is_answered h))
