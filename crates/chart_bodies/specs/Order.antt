-- The order of a chart: does it hold each vertex once?
use Rattle.std.specs.Prelude.{Ok, Err, ℕ, ◌≤◌, ◌≡◌, Bool, true, false, ◌&&◌, List, [], ◌∷◌, length, take, leb, eqb}
use Rattle.std.proofs.Common.{le_of_eq, sym, ◌∙◌, take_all, le-leb, eq-eqb, ne_eqb}
use Rattle.model.specs.declared.refusal.Refusal.TheVariants as because
use Rattle.model.specs.Answers.{number}
use Rattle.model.specs.Layouts.{each_once}
use Rattle.model.specs.Checks.{Check, refusal, by_refusal, checked}
use Rattle.model.specs.Charts.{asked, answer, place_checks}

-- question 8 of any number of vertices: n bytes, at most 64 vertices, each of them once
unfoldable pub order_question : ℕ → List ℕ → List Check
order_question n o = record { passes = eqb (length o) n && (leb n 64 && each_once n o); code = 8 } ∷ []

-- of at most 64 vertices it is the question of charts
pub question_eight : (n : ℕ) (o : List ℕ) → n ≤ 64 → order_question n o ≡ place_checks n o
unfolding order_question place_checks
question_eight n o few = rw (le-leb n 64 few)

module _ (n : ℕ) (o : List ℕ) where
  module _ (long : length o ≡ n) {t : Bool} (said : t ≡ (leb n 64 && each_once n (take n o))) where
    once : (leb n 64 && each_once n o) ≡ t
    once = sym (said ∙ rw (take_all n o (le_of_eq long)))

    pub answer_places : t ≡ true → asked (Ok tt) ≡ answer (order_question n o) []
    unfolding order_question answer checked by_refusal refusal asked number
    answer_places e = rw (eq-eqb (length o) n long, once, e)

    pub answer_misplaced : t ≡ false → asked (Err because.NoOrder) ≡ answer (order_question n o) []
    unfolding order_question answer checked by_refusal refusal asked number
    answer_misplaced e = rw (eq-eqb (length o) n long, once, e)

  pub answer_length : (length o ≡ n → ⊥) → asked (Err because.NoOrder) ≡ answer (order_question n o) []
  unfolding order_question answer checked by_refusal refusal asked number
  answer_length d = rw (ne_eqb (length o) n d)
