-- Weights that are equal both ways round, and bytes, asked of each two vertices once.
use Rattle.std.specs.Prelude.{ℕ, suc, ◌≤◌, ◌<◌, ◌≡◌, refl, Bool, true, false, ◌&&◌, List, T, eqb, leb}
use Rattle.std.proofs.Math.Decide.{dec_lt}
use Rattle.std.proofs.Common.{arith, sym, ap, ap₂, ◌∙◌, subst, le-leb, leb-true, eq-eqb, eqb-true}
use Rattle.std.specs.Int.Bits.{bit_or, bit_xor, or_add_and, or_zero_l, xor_add_and, xor_self}
use Rattle.std.proofs.lemmas.Nat.{and_le_l, and_le_r}
use Rattle.model.specs.Lists.{upto, every}
use Rattle.model.specs.Layouts.{table_weight}
use Rattle.laws.specs.Sums.Indicators.{T_true, bool_ext, and_intro, and_left, and_right}
use Rattle.laws.specs.Sums.Every.{every_upto, upto_every}

abbrev pub even_pair : List ℕ → ℕ → ℕ → Bool
even_pair ws u v = eqb (table_weight ws u v) (table_weight ws v u) && leb (table_weight ws u v) 255

-- u with each vertex up to itself
unfoldable pub even_row : List ℕ → ℕ → Bool
even_row ws u = every (even_pair ws u) (upto (suc u))

unfoldable pub even_below : ℕ → List ℕ → Bool
even_below n ws = every (even_row ws) (upto n)

-- what it says of two vertices
pub record Even (n : ℕ) (ws : List ℕ) : Type 0 where
  pub even : (u v : ℕ) → u < n → v < n → table_weight ws u v ≡ table_weight ws v u
  pub light : (u v : ℕ) → u < n → v < n → table_weight ws u v ≤ 255

pub even_pairs : (n : ℕ) (ws : List ℕ) → T (even_below n ws) → Even n ws
unfolding even_below even_row
even_pairs n ws t =
    record {
      even = λ u v l m. elim (dec_lt u v) [ yes b ↦ sym (same v u m (omega arith)) | no b ↦ same u v l (omega arith) ];
      light = λ u v l m. elim (dec_lt u v) [ yes b ↦ omega (arith, same v u m (omega arith), few v u m (omega arith)) | no b ↦ few u v l (omega arith) ];
    }
  where
    equal : ℕ → ℕ → Bool
    equal u v = eqb (table_weight ws u v) (table_weight ws v u)

    small : ℕ → ℕ → Bool
    small u v = leb (table_weight ws u v) 255

    pair : (u v : ℕ) → u < n → v < suc u → T (equal u v && small u v)
    pair u v l b = every_upto (even_pair ws u) (suc u) (every_upto (even_row ws) n t u l) v b

    same : (u v : ℕ) → u < n → v < suc u → table_weight ws u v ≡ table_weight ws v u
    same u v l b = eqb-true (table_weight ws u v) (table_weight ws v u) (T_true (equal u v) (and_left (equal u v) (small u v) (pair u v l b)))

    few : (u v : ℕ) → u < n → v < suc u → table_weight ws u v ≤ 255
    few u v l b = leb-true (table_weight ws u v) 255 (T_true (small u v) (and_right (equal u v) (small u v) (pair u v l b)))

pub pairs_even : {n : ℕ} {ws : List ℕ} → Even n ws → T (even_below n ws)
unfolding even_below even_row
pairs_even {n} {ws} e =
    upto_every (even_row ws) n
    (λ u l. upto_every (even_pair ws u) (suc u)
    (λ v b. and_intro (eqb (table_weight ws u v) (table_weight ws v u)) (leb (table_weight ws u v) 255)
    (subst T (sym (eq-eqb (table_weight ws u v) (table_weight ws v u) (e.even u v l (omega arith)))) tt)
    (subst T (sym (le-leb (table_weight ws u v) 255 (e.light u v l (omega arith)))) tt)))

-- 0 exactly where no difference was found so far, and a and b do not differ
joined_zero : (d a b : ℕ) → eqb (bit_or d (bit_xor a b)) 0 ≡ (eqb d 0 && eqb a b)
joined_zero d a b =
    bool_ext (eqb (bit_or d (bit_xor a b)) 0) (eqb d 0 && eqb a b)
    (λ t.
    let e = eqb-true (bit_or d (bit_xor a b)) 0 (T_true (eqb (bit_or d (bit_xor a b)) 0) t) in
    let none : d ≡ 0 = omega (arith, e, or_add_and d (bit_xor a b), and_le_r d (bit_xor a b)) in
    let equal : bit_xor a b ≡ 0 = omega (arith, e, or_add_and d (bit_xor a b), and_le_l d (bit_xor a b)) in
    let alike : a ≡ b = omega (arith, equal, xor_add_and a b, and_le_l a b, and_le_r a b) in
    and_intro (eqb d 0) (eqb a b) (passes d 0 none) (passes a b alike))
    (λ t.
    let none = eqb-true d 0 (T_true (eqb d 0) (and_left (eqb d 0) (eqb a b) t)) in
    let alike = eqb-true a b (T_true (eqb a b) (and_right (eqb d 0) (eqb a b) t)) in
    passes (bit_or d (bit_xor a b)) 0 (ap₂ (λ (x y : ℕ). bit_or x (bit_xor y b)) none alike ∙ or_zero_l (bit_xor b b) ∙ xor_self b))
  where
    passes : (x y : ℕ) → x ≡ y → T (eqb x y)
    passes x y e = subst T (sym (eq-eqb x y e)) tt

-- the same of two bytes
pub joined_bytes : (d a b : ℕ) → a ≤ 255 → eqb (bit_or d (bit_xor a b)) 0 ≡ (eqb d 0 && (eqb a b && leb a 255))
joined_bytes d a b few = rw (le-leb a 255 few) (joined_zero d a b ∙ ap (λ (t : Bool). eqb d 0 && t) (sym (and_true (eqb a b))))
  where
    and_true : (t : Bool) → (t && true) ≡ t
    and_true true = refl
    and_true false = refl
