-- The array that the order of a chart goes into.
use Rattle.std.specs.Prelude.{ℕ, zero, suc, ◌-◌, ◌≤◌, ◌<◌, ◌≡◌, refl, List, [], ◌∷◌, ◌++◌, length, get_or, take, drop, replicate}
use Rattle.std.proofs.Common.{add-sub_of_le, le_of_suc-le-suc, not-suc-le-zero, arith, sym, ap, ◌∙◌, length-append, length-take-le, get_or-take, get_or-append-add}
use Rattle.std.proofs.Math.Decide.{dec_lt}
use Rattle.std.proofs.lemmas.List.{length-replicate, get_or-replicate}
use Rattle.std.proofs.Math.ListN.{get_or-append, get_or-eq_default}
use Rattle.std.proofs.Math.Seq.{take-length}
pub use Rattle.model.specs.Charts.{padded}

pub padded_length : (o : List ℕ) → length (padded o) ≡ 64
padded_length o = length-take-le 64 (o ++ replicate 64 0) (omega (arith, length-append o (replicate 64 0), length-replicate {A = ℕ} 64 0))

pub padded_at : (o : List ℕ) (k : ℕ) → k < 64 → get_or (padded o) k 0 ≡ get_or o k 0
padded_at o k h =
    get_or-take 64 (o ++ replicate 64 0) k 0 h
    ∙ elim (dec_lt k (length o)) [
      | yes l ↦ get_or-append o (replicate 64 0) 0 k l
      | no l ↦
          ap (λ (i : ℕ). get_or (o ++ replicate 64 0) i 0) (sym (add-sub_of_le (omega arith)))
          ∙ get_or-append-add o (replicate 64 0) (k - length o) 0
          ∙ get_or-replicate 64 (k - length o) 0 0 (omega arith)
          ∙ sym (get_or-eq_default o 0 (omega arith))
    ]

-- copied over the start of an array of zeros, the list is that array
zeros : (m k : ℕ) → m ≤ k → take {A = ℕ} m (replicate k 0) ≡ replicate m 0
zeros zero k h = refl
zeros (suc m) zero h = absurd (not-suc-le-zero h)
zeros (suc m) (suc k) h = ap (λ (xs : List ℕ). 0 ∷ xs) (zeros m k (le_of_suc-le-suc h))

over_zeros : (m k : ℕ) (xs : List ℕ) → m ≤ k → length xs ≤ m → take m (xs ++ replicate k 0) ≡ xs ++ drop (length xs) (replicate m 0)
over_zeros m k [] h l = zeros m k h
over_zeros zero k (x ∷ xs) h l = absurd (not-suc-le-zero l)
over_zeros (suc m) k (x ∷ xs) h l = ap (λ (ys : List ℕ). x ∷ ys) (over_zeros m k xs (omega arith) (le_of_suc-le-suc l))

pub padded_copy : (o : List ℕ) → length o ≤ 64 → take (length o) o ++ drop (length o) (replicate 64 0) ≡ padded o
padded_copy o few =
    ap (λ (xs : List ℕ). xs ++ drop (length o) (replicate 64 0)) (take-length o) ∙ sym (over_zeros 64 64 o (omega arith) few)
