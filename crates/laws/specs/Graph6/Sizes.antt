-- The size part: bytes start with that of at most one number of vertices.
use Rattle.std.specs.Prelude.{ℕ, ◌+◌, ◌/◌, ◌%◌, ◌≤◌, ◌<◌, ◌≡◌, refl, Bool, true, ◌&&◌, get_or, take, eqb}
use Rattle.std.proofs.Math.Decide.{dec_lt}
use Rattle.std.proofs.Common.{arith, ap₂, ◌∙◌, subst, length-append, take-append-drop, eqb-true, eq-eqb, le-leb}
use Rattle.std.proofs.Math.Path.{sym, ap}
use Rattle.std.proofs.lemmas.Bool.{false≢true, lt-leb}
use mathlib.Core.List.{List, [], ◌∷◌, ◌++◌}
use Rattle.std.proofs.Math.ListN.{length, drop}
use Rattle.std.proofs.Math.Seq.{take-append_seam}
use Rattle.std.proofs.Math.Dec.{T}
use Rattle.model.specs.Lists.{upto, any}
use Rattle.model.specs.Charts.{same_list}
use Rattle.model.specs.Graph6.{size_part, starts_with_size, graph6_size}
use Rattle.laws.specs.Sums.Indicators.{T_true, both_left, both_right}
use Rattle.laws.specs.Sums.Lists.{all_upto}
use Rattle.laws.specs.Sums.Any.{any_upto, first_found}

-- ---- the same list

same_list_lem : (xs ys : List ℕ) → same_list xs ys ≡ true → xs ≡ ys
unfolding same_list
same_list_lem [] [] e = refl
same_list_lem [] (y ∷ ys) e = absurd (false≢true e)
same_list_lem (x ∷ xs) [] e = absurd (false≢true e)
same_list_lem (x ∷ xs) (y ∷ ys) e =
    ap₂ (λ (z : ℕ) (zs : List ℕ). z ∷ zs) (eqb-true x y (both_left (eqb x y) (same_list xs ys) e)) (same_list_lem xs ys (both_right (eqb x y) (same_list xs ys) e))

pub list_same : (xs : List ℕ) → same_list xs xs ≡ true
unfolding same_list
list_same [] = refl
list_same (x ∷ xs) = ap₂ (λ (a b : Bool). a && b) (eq-eqb x x refl) (list_same xs)

-- ---- bytes that start with a size part

-- the forms
pub size_short : {n : ℕ} → n ≤ 62 → size_part n ≡ (n + 63) ∷ []
unfolding size_part
size_short {n} h = rw (le-leb n 62 h)

pub size_long : {n : ℕ} → 62 < n → size_part n ≡ 126 ∷ (n / 4096 + 63) ∷ (n / 64 % 64 + 63) ∷ (n % 64 + 63) ∷ []
unfolding size_part
size_long {n} h = rw (lt-leb n 62 h)

pub size_starts : (n : ℕ) (rest : List ℕ) → starts_with_size (size_part n ++ rest) n ≡ true
unfolding starts_with_size
size_starts n rest = ap (λ (x : List ℕ). same_list x (size_part n)) (take-append_seam (size_part n) rest) ∙ list_same (size_part n)

module _ (s : List ℕ) where
  pub starts_with : (n : ℕ) → starts_with_size s n ≡ true → s ≡ size_part n ++ drop (length (size_part n)) s
  unfolding starts_with_size
  starts_with n e =
      let k = length (size_part n) in
      sym (take-append-drop k s) ∙ ap (λ (x : List ℕ). x ++ drop k s) (same_list_lem (take k s) (size_part n) e)

  pub starts_long : (n : ℕ) → starts_with_size s n ≡ true → length (size_part n) ≤ length s
  starts_long n e = omega (arith, ap length (starts_with n e), length-append (size_part n) (drop (length (size_part n)) s))

  -- the bytes of the forms
  pub short_byte : (n : ℕ) → starts_with_size s n ≡ true → n ≤ 62 → get_or s 0 0 ≡ n + 63
  short_byte n e h = ap (λ (x : List ℕ). get_or x 0 0) (starts_with n e ∙ ap (λ (x : List ℕ). x ++ drop (length (size_part n)) s) (size_short h))

  pub long_byte : (n : ℕ) → starts_with_size s n ≡ true → 62 < n → (i : ℕ)
      → get_or s i 0 ≡ get_or (126 ∷ (n / 4096 + 63) ∷ (n / 64 % 64 + 63) ∷ (n % 64 + 63) ∷ drop (length (size_part n)) s) i 0
  long_byte n e h i = ap (λ (x : List ℕ). get_or x i 0) (starts_with n e ∙ ap (λ (x : List ℕ). x ++ drop (length (size_part n)) s) (size_long h))

  size_once : (m n : ℕ) → m ≤ 64 → n ≤ 64 → starts_with_size s m ≡ true → starts_with_size s n ≡ true → m ≡ n
  size_once m n hm hn em en =
      elim (dec_lt 62 m) [
        | yes long ↦
            elim (dec_lt 62 n) [
              | yes also-long ↦ omega (arith, long_byte m em long 2, long_byte m em long 3, long_byte n en also-long 2, long_byte n en also-long 3)
              | no short ↦ absurd (omega (arith, long_byte m em long 0, short_byte n en (omega arith)))
            ]
        | no short ↦
            elim (dec_lt 62 n) [
              | yes long ↦ absurd (omega (arith, long_byte n en long 0, short_byte m em (omega arith)))
              | no also-short ↦ omega (arith, short_byte m em (omega arith), short_byte n en (omega arith))
            ]
      ]

  -- where one is found, it is that
  pub size_accepted : any (starts_with_size s) (upto 65) ≡ true → (graph6_size s ≤ 64) × (starts_with_size s (graph6_size s) ≡ true)
  unfolding graph6_size
  size_accepted e =
      let found = first_found (starts_with_size s) 0 (all_upto 65) (subst T (sym e) tt) in
      (omega (arith, found.0), T_true (starts_with_size s (graph6_size s)) found.1)

  pub size_found_lem : (n : ℕ) → n ≤ 64 → starts_with_size s n ≡ true → (any (starts_with_size s) (upto 65) ≡ true) × (graph6_size s ≡ n)
  size_found_lem n h e =
      let there = any_upto (starts_with_size s) 65 n (omega arith) e in
      let found = size_accepted there in
      (there, size_once (graph6_size s) n found.0 h found.1 e)
