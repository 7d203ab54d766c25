-- The placed vertices as the bits of a word: one more is placed, and whether a vertex is.
use Prim.Native.Nat.{ℕ, zero, suc, ◌+◌, ◌-◌, ◌^◌, ◌≤◌, ◌<◌}
use Rattle.std.proofs.Math.Decide.{ℕ_discrete}
use Rattle.std.proofs.Common.{arith, sym, ◌∙◌, pow_pos}
use Rattle.std.specs.Prelude.{◌≡◌, Bool, not, List, [], ◌∷◌, ◌++◌, eqb, ltb}
use Rattle.std.proofs.Math.Path.{refl, ap}
use Rattle.model.specs.Lists.{one, member, occurrences}
use Rattle.model.specs.Crossings.{bit}
use Rattle.model.specs.Edits.{with_bit}
use Rattle.laws.specs.Sums.Indicators.{one_eq, one_ne}
use Rattle.laws.specs.Sums.Bits.{bit_beyond, set_same, set_other}
use Rattle.laws.specs.Orders.Permutations.{occurrences_nil, occurrences_cons, occurrences_append, member_occurs}
use Rattle.laws.specs.Crossings.Masks.{Holds}
use Rattle.laws.specs.Append.Order.{Placed}

-- the word m of 64 bits holds the vertices xs
pub record Held (m : ℕ) (xs : List ℕ) : Type 0 where
  pub fits : m < 2 ^ 64
  pub holds : Holds m xs

pub held_none : Held 0 []
held_none = record { fits = pow_pos 64; holds = λ v l. bit_beyond 0 0 v (omega arith) (omega arith) ∙ sym (occurrences_nil v) }

-- one vertex more
module _ {xs : List ℕ} {m next : ℕ} (v : ℕ) (h : Held m xs) (free : occurrences v xs ≡ 0) (l : next < 2 ^ 64) (e : next ≡ with_bit m v) where
  met : (u : ℕ) → u < 64 → bit next u ≡ one (eqb u v) + occurrences u xs
  met u b =
      ap (λ (x : ℕ). bit x u) e
      ∙ elim (ℕ_discrete u v) [
        | yes d ↦ ap (bit (with_bit m v)) d ∙ set_same m v ∙ omega (arith, one_eq u v d, ap (λ (x : ℕ). occurrences x xs) d)
        | no d ↦ set_other m v u d ∙ omega (arith, h.holds u b, one_ne u v d)
      ]

  pub held_front : Held next (v ∷ xs)
  held_front = record { fits = l; holds = λ u b. met u b ∙ sym (occurrences_cons u v xs) }

  pub held_back : Held next (xs ++ (v ∷ []))
  held_back =
      record {
        fits = l;
        holds = λ u b. met u b ∙ omega (arith, occurrences_append u xs (v ∷ []), occurrences_cons u v [], occurrences_nil u);
      }

module _ {n : ℕ} (small : n ≤ 64) {xs : List ℕ} (p : Placed n xs) {m : ℕ} (h : Held m xs) where
  -- a vertex is placed, or not
  pub placed_test : (u : ℕ) → u < n → eqb (bit m u) 1 ≡ member u xs
  placed_test u l =
      ap (λ (x : ℕ). eqb x 1) (h.holds u (omega (arith, small))) ∙ by_number (occurrences u xs) (p.once u) ∙ sym (member_occurs u xs)
    where
      by_number : (k : ℕ) → k ≤ 1 → eqb k 1 ≡ ltb 0 k
      by_number zero b = refl
      by_number (suc zero) b = refl
      by_number (suc (suc k)) b = absurd (omega arith)

  pub placed_bit : (u : ℕ) → u < n → 1 - bit m u ≡ one (not (member u xs))
  unfolding one
  placed_bit u l =
      ap (λ (x : ℕ). 1 - x) (h.holds u (omega (arith, small)))
      ∙ by_number (occurrences u xs) (p.once u)
      ∙ ap (λ (b : Bool). one (not b)) (sym (member_occurs u xs))
    where
      by_number : (k : ℕ) → k ≤ 1 → 1 - k ≡ one (not (ltb 0 k))
      by_number zero b = refl
      by_number (suc zero) b = refl
      by_number (suc (suc k)) b = absurd (omega arith)
