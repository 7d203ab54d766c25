-- A loop over the numbers below n that makes f 0, f 1 and so on, one from the other, and one that writes each into a list.
use Rattle.std.specs.Prelude.{ℕ, suc, ◌+◌, ◌≤◌, ◌<◌, ◌≡◌, List, map, length, get_or, set}
use Rattle.std.proofs.Common.{not-suc-le-zero, add-one, arith, sym, ap, ◌∙◌, length-set, ext_get_or, get_or-set_same, get_or-set_other, below_more}
use Rattle.std.proofs.lemmas.List.{length-map}
use Rattle.model.specs.Lists.{upto}
use Rattle.laws.specs.Sums.Lists.{length_upto, map_upto_at}

pub record MadeUpTo {A : Type 0} (f : ℕ → A) (n : ℕ) (x : A) (i : ℕ) : Type 0 where
  pub inside : i ≤ n
  pub made : x ≡ f i

module _ {A : Type 0} {f : ℕ → A} where
  pub made_start : {x : A} (n : ℕ) → x ≡ f 0 → MadeUpTo f n x 0
  made_start n e = record { inside = omega arith; made = e }

  module _ {n : ℕ} {x : A} {i : ℕ} (m : MadeUpTo f n x i) where
    pub made_next : i < n → {y : A} → y ≡ f (suc i) → MadeUpTo f n y (i + 1)
    made_next h e = record { inside = omega arith; made = e ∙ ap f (sym (add-one i)) }

    pub made_end : n ≤ i → {k : ℕ} → n ≡ k → x ≡ f k
    made_end h {k} e = let all : i ≡ k = omega (arith, m.inside) in m.made ∙ ap f all

-- ---- a list of n entries, written one by one

pub record FilledUpTo (f : ℕ → ℕ) (n : ℕ) (xs : List ℕ) (i : ℕ) : Type 0 where
  pub inside : i ≤ n
  pub size : length xs ≡ n
  pub filled : (k : ℕ) → k < i → get_or xs k 0 ≡ f k

module _ {f : ℕ → ℕ} {n : ℕ} {xs : List ℕ} where
  pub filled_start : length xs ≡ n → FilledUpTo f n xs 0
  filled_start e = record { inside = omega arith; size = e; filled = λ k l. absurd (not-suc-le-zero l) }

  module _ {i : ℕ} (s : FilledUpTo f n xs i) where
    pub filled_next : i < n → {x : ℕ} → x ≡ f i → FilledUpTo f n (set xs i x) (i + 1)
    filled_next h {x} e =
        record {
          inside = omega arith;
          size = length-set xs i x ∙ s.size;
          filled =
              below_more (λ k. get_or (set xs i x) k 0 ≡ f k) i
              (λ k l. get_or-set_other xs i k x 0 (λ d. omega arith) ∙ s.filled k l)
              (get_or-set_same xs i x 0 (omega (arith, s.size)) ∙ e);
        }

    pub filled_end : n ≤ i → xs ≡ map f (upto n)
    filled_end h =
        ext_get_or 0 xs (map f (upto n)) (s.size ∙ sym (length-map (upto n) f ∙ length_upto n))
        (λ k l. s.filled k (omega (arith, s.size)) ∙ sym (map_upto_at f n k (omega (arith, s.size))))
