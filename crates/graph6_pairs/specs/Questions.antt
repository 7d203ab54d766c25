-- What questions 21 and 22 answer, from what the code has asked.
use Rattle.std.specs.Prelude.{Err, ℕ, ◌≡◌, Bool, List, [], ◌∷◌, ◌++◌, length, drop, eqb}
use borrow.Author.Tests.{eq-eqb, ne_eqb}
use Rattle.model.specs.declared.refusal.Refusal.TheVariants as because
use Rattle.model.specs.Answers.{number}
use Rattle.model.specs.Lists.{every}
use Rattle.model.specs.Checks.{Check, refusal, by_refusal, checked}
use Rattle.model.specs.Charts.{Answer, asked, answer}
use Rattle.model.specs.Graph6.{bytes_for, pairs_by_higher, unpacked, holds_six, data_checks, padding_checks}

-- the checks of bytes that are as many as they should be
abbrev pub asks : Bool → Bool → List Check
asks six padded = record { passes = six; code = 21 } ∷ record { passes = padded; code = 22 } ∷ []

module _ (n : ℕ) (bytes : List ℕ) where
  abbrev needed : ℕ
  needed = bytes_for (length (pairs_by_higher n))

  abbrev bits_answer : Answer
  bits_answer = answer (data_checks n bytes ++ padding_checks n bytes) []

  pub another_length : (length bytes ≡ needed → ⊥) → asked (Err because.WrongBits) ≡ bits_answer
  unfolding data_checks padding_checks answer checked by_refusal refusal asked number
  another_length d = rw (ne_eqb (length bytes) needed d)

  pub right_length : length bytes ≡ needed → {six padded : Bool} → six ≡ every holds_six bytes
      → padded ≡ every (eqb 0) (drop (length (pairs_by_higher n)) (unpacked bytes)) → answer (asks six padded) [] ≡ bits_answer
  unfolding data_checks padding_checks
  right_length long e p = rw (e, p, eq-eqb (length bytes) needed long)
