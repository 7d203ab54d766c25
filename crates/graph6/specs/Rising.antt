-- The order 0, 1, 2 and so on, written into its array.
use Rattle.std.specs.Prelude.{ℕ, suc, ◌≤◌, ◌<◌, ◌≡◌, refl, List, length, get_or, set, replicate}
use Rattle.std.proofs.Common.{arith, sym, ap, ◌∙◌, length-set, ext_get_or, get_or-set_same, get_or-set_other}
use Rattle.std.proofs.Math.ListN.{get_or-eq_default}
use Rattle.model.specs.Lists.{upto}
use Rattle.laws.specs.Sums.Indicators.{less, same, more, order}
use Rattle.laws.specs.Sums.Lists.{length_upto, upto_at}
use Rattle.laws.specs.Charts.Padded.{padded, padded_length, padded_at}

-- what stands at a place
at_place : (v i : ℕ) → i < 64 → i < v → get_or (padded (upto v)) i 0 ≡ i
at_place v i h l = padded_at (upto v) i h ∙ upto_at v i l

behind : (v i : ℕ) → i < 64 → v ≤ i → get_or (padded (upto v)) i 0 ≡ 0
behind v i h l = padded_at (upto v) i h ∙ get_or-eq_default (upto v) 0 (omega (arith, length_upto v))

-- no vertex, and one more
pub none_placed : replicate 64 0 ≡ padded (upto 0)
unfolding upto
none_placed = refl

pub one_placed : {v : ℕ} → v < 64 → {o : List ℕ} → o ≡ padded (upto v) → set o v v ≡ padded (upto (suc v))
one_placed {v} h e = ap (λ (x : List ℕ). set x v v) e ∙ same_places
  where
    old : List ℕ
    old = padded (upto v)

    long : length (set old v v) ≡ 64
    long = length-set old v v ∙ padded_length (upto v)

    entry : (i : ℕ) → i < 64 → get_or (set old v v) i 0 ≡ get_or (padded (upto (suc v))) i 0
    entry i below =
        elim (order i v) [
          | less l ↦ get_or-set_other old v i v 0 (λ e. omega arith) ∙ at_place v i below l ∙ sym (at_place (suc v) i below (omega arith))
          | same e ↦
              ap (λ (k : ℕ). get_or (set old v v) k 0) e
              ∙ get_or-set_same old v v 0 (omega (arith, padded_length (upto v)))
              ∙ sym e
              ∙ sym (at_place (suc v) i below (omega arith))
          | more l ↦
              get_or-set_other old v i v 0 (λ e. omega arith) ∙ behind v i below (omega arith) ∙ sym (behind (suc v) i below (omega arith))
        ]

    same_places : set old v v ≡ padded (upto (suc v))
    same_places =
        ext_get_or 0 (set old v v) (padded (upto (suc v))) (long ∙ sym (padded_length (upto (suc v)))) (λ i l. entry i (omega (arith, long)))
