-- Questions 5 and 6: the edges of a chart, two bytes each.
use Rattle.std.specs.Prelude.{ℕ, suc, ◌/◌, ◌%◌, ◌≡◌, refl, Bool, true, false, ◌&&◌, Ok, Err, List, [], ◌∷◌, length, get_or}
use Rattle.std.specs.List.{list_all}
use Rattle.std.specs.Simd.{first_chunks}
use Rattle.std.proofs.Common.{arith, ◌∙◌, ap, eq-eqb, ne_eqb}
use Rattle.model.specs.declared.refusal.Refusal.TheVariants as because
use Rattle.model.specs.Answers.{number}
use Rattle.model.specs.Lists.{every}
use Rattle.model.specs.Checks.{refusal, by_refusal, checked}
use Rattle.model.specs.Charts.{edges_in, edge_within, asked, answer, end_checks}
use Rattle.laws.specs.Charts.Ends.{edge}

-- the two bytes of an edge
abbrev pub pair_within : ℕ → List ℕ → Bool
pair_within n pair = edge_within n (edge (get_or pair 0 0) (get_or pair 1 0))

pub pairs_within : (n : ℕ) (s : List ℕ) → list_all (pair_within n) (first_chunks 2 (length s / 2) s) ≡ every (edge_within n) (edges_in s)
unfolding every edges_in edge
pairs_within n [] = refl
pairs_within n (a ∷ []) = refl
pairs_within n (a ∷ b ∷ rest) =
    let half : length (a ∷ b ∷ rest) / 2 ≡ suc (length rest / 2) = omega arith in
    ap (λ (k : ℕ). list_all (pair_within n) (first_chunks 2 k (a ∷ b ∷ rest))) half
    ∙ ap (λ (x : Bool). pair_within n (a ∷ b ∷ []) && x) (pairs_within n rest)

module _ (n : ℕ) (s : List ℕ) where
  pub answer_odd : (length s % 2 ≡ 0 → ⊥) → asked (Err because.OddLinks) ≡ answer (end_checks n s) []
  unfolding end_checks answer checked by_refusal refusal asked number
  answer_odd d = rw (ne_eqb (length s % 2) 0 d)

  module _ (d : length s % 2 ≡ 0) where
    pub answer_outside : every (edge_within n) (edges_in s) ≡ false → asked (Err because.NoEdge) ≡ answer (end_checks n s) []
    unfolding end_checks answer checked by_refusal refusal asked number
    answer_outside e = rw (eq-eqb (length s % 2) 0 d, e)

    pub answer_within : every (edge_within n) (edges_in s) ≡ true → asked (Ok tt) ≡ answer (end_checks n s) []
    unfolding end_checks answer checked by_refusal refusal asked
    answer_within e = rw (eq-eqb (length s % 2) 0 d, e)
