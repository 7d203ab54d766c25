-- The size part at the start of some bytes: whose it is, and that it is no other's.
use Rattle.std.specs.Prelude.{ℕ, ◌+◌, ◌-◌, ◌/◌, ◌%◌, ◌≤◌, ◌<◌, ◌≡◌, Bool, cond, length}
use Rattle.std.proofs.Math.Decide.{dec_lt}
use native.Mathlib.Omega.{arith}
use Rattle.std.proofs.Math.Path.{refl, ap}
use Rattle.std.proofs.Common.{sym, ◌∙◌, true≢false, take-suc}
use Rattle.std.proofs.Math.Bool.{true, false}
use mathlib.Core.List.{List, [], ◌∷◌}
use Rattle.std.proofs.Math.ListN.{get_or, take}
use Rattle.model.specs.Lists.{upto, any}
use Rattle.model.specs.Checks.{refusal, by_refusal, checked}
use Rattle.model.specs.Charts.{Answer, accept, refuse, same_list, answer}
use Rattle.model.specs.Graph6.{size_part, starts_with_size, graph6_size, graph6_size_checks, graph6_size_answer}
use Rattle.laws.specs.Graph6.Sizes.{list_same, size_short, size_long, starts_long, short_byte, long_byte, size_accepted, size_found_lem}

-- the bytes start with the size part of n, up to 64: one byte, or the byte 126 and three more
pub data SizeAt (s : List ℕ) (n : ℕ) : Type 0 where
  short : n ≤ 62 → 1 ≤ length s → get_or s 0 0 ≡ n + 63 → SizeAt s n
  long : 63 ≤ n → n ≤ 64 → 4 ≤ length s → get_or s 0 0 ≡ 126 → get_or s 1 0 ≡ 63 → get_or s 2 0 ≡ n / 64 + 63 → get_or s 3 0 ≡ n % 64 + 63 → SizeAt s n

pub size_few : {s : List ℕ} {n : ℕ} → SizeAt s n → n ≤ 64
size_few (short a b c) = omega arith
size_few (long a b c d e f g) = b

-- ---- as the definition has it

first_four : (s : List ℕ) → 4 ≤ length s → take 4 s ≡ get_or s 0 0 ∷ get_or s 1 0 ∷ get_or s 2 0 ∷ get_or s 3 0 ∷ []
first_four (a ∷ b ∷ c ∷ d ∷ rest) h = refl
first_four (a ∷ b ∷ c ∷ []) h = absurd (omega arith)
first_four (a ∷ b ∷ []) h = absurd (omega arith)
first_four (a ∷ []) h = absurd (omega arith)
first_four [] h = absurd (omega arith)

module _ {s : List ℕ} {n : ℕ} where
  starts_size : SizeAt s n → starts_with_size s n ≡ true
  unfolding starts_with_size
  starts_size a = ap (λ (x : List ℕ). same_list x (size_part n)) (part a) ∙ list_same (size_part n)
    where
      part : SizeAt s n → take (length (size_part n)) s ≡ size_part n
      part (short few there first) = rw (size_short few) (take-suc s 0 0 there ∙ ap (λ (x : ℕ). x ∷ []) first)
      part (long many few there first high middle low) =
          let top : 63 ≡ n / 4096 + 63 = omega arith in
          let rest : n / 64 + 63 ≡ n / 64 % 64 + 63 = omega arith in
          rw (size_long many) (first_four s there ∙ rw (first, high ∙ top, middle ∙ rest, low))

  size_at : n ≤ 64 → starts_with_size s n ≡ true → SizeAt s n
  size_at few e =
      let there = starts_long s n e in
      elim (dec_lt 62 n) [
        | yes l ↦
            (let byte = long_byte s n e l in
            long l few (rw (size_long l) at there) (byte 0) (omega (arith, byte 1)) (omega (arith, byte 2)) (byte 3))
        | no l ↦
            (let little : n ≤ 62 = omega arith in
            short little (rw (size_short little) at there) (short_byte s n e little))
      ]

-- ---- what is found

module _ {s : List ℕ} where
  -- the first number whose size part stands there
  first_at : any (starts_with_size s) (upto 65) ≡ true → SizeAt s (graph6_size s)
  first_at e = let f = size_accepted s e in size_at f.0 f.1

  at_found : {n : ℕ} → SizeAt s n → (any (starts_with_size s) (upto 65) ≡ true) × (graph6_size s ≡ n)
  at_found {n} a = size_found_lem s n (size_few a) (starts_size a)

  pub found : {n : ℕ} → SizeAt s n → accept (n ∷ []) ≡ graph6_size_answer s
  unfolding graph6_size_answer graph6_size_checks answer checked by_refusal refusal
  found a = let f = at_found a in rw (f.0, f.1)

  pub not_found : ((n : ℕ) → SizeAt s n → ⊥) → refuse 20 ≡ graph6_size_answer s
  unfolding graph6_size_answer graph6_size_checks answer checked by_refusal refusal
  not_found never = by_test (any (starts_with_size s) (upto 65)) refl
    where
      by_test : (b : Bool) → any (starts_with_size s) (upto 65) ≡ b → refuse 20 ≡ by_refusal (cond b 0 20) (accept (graph6_size s ∷ [])) refuse
      by_test true e = absurd (never (graph6_size s) (first_at e))
      by_test false e = refl

-- bytes that start with the size parts of the same numbers
same_answers : (s t : List ℕ) → ((n : ℕ) → SizeAt s n → SizeAt t n) → ((n : ℕ) → SizeAt t n → SizeAt s n) → graph6_size_answer s ≡ graph6_size_answer t
same_answers s t to from = by_test (any (starts_with_size s) (upto 65)) refl
  where
    by_test : (b : Bool) → any (starts_with_size s) (upto 65) ≡ b → graph6_size_answer s ≡ graph6_size_answer t
    by_test true e = let a = first_at e in sym (found a) ∙ found (to (graph6_size s) a)
    by_test false e =
        let never : (n : ℕ) → SizeAt s n → ⊥ = λ n a. true≢false (sym (at_found a).0 ∙ e) in
        sym (not_found never) ∙ not_found (λ n a. never n (from n a))

-- ---- what the code finds, form by form

-- of one byte
unfoldable pub short_answer : ℕ → Answer
short_answer byte = graph6_size_answer (byte ∷ [])

module _ {byte : ℕ} where
  pub short_low : byte < 63 → refuse 20 ≡ short_answer byte
  unfolding short_answer
  short_low h = not_found (λ n a. elim a [ short p q r ↦ omega arith | long p q r t u v w ↦ omega arith ])

  pub short_high : 125 < byte → refuse 20 ≡ short_answer byte
  unfolding short_answer
  short_high h = not_found (λ n a. elim a [ short p q r ↦ omega arith | long p q r t u v w ↦ omega arith ])

  pub short_found : 63 ≤ byte → byte ≤ 125 → accept ((byte - 63) ∷ []) ≡ short_answer byte
  unfolding short_answer
  short_found h l = found (short (omega arith) (omega arith) (omega arith))

-- of the byte 126 and three more
unfoldable pub long_answer : ℕ → ℕ → ℕ → Answer
long_answer high middle low = graph6_size_answer (126 ∷ high ∷ middle ∷ low ∷ [])

module _ {high middle low : ℕ} where
  -- refused where it is not the size part of 63 nor of 64
  pub long_refused : ((n : ℕ) → 63 ≤ n → n ≤ 64 → high ≡ 63 → middle ≡ n / 64 + 63 → low ≡ n % 64 + 63 → ⊥) → refuse 20 ≡ long_answer high middle low
  unfolding long_answer
  long_refused never = not_found (λ n a. elim a [ short p q r ↦ omega arith | long p q r t u v w ↦ never n p q u v w ])

  pub long_found : {n : ℕ} → 63 ≤ n → n ≤ 64 → high ≡ 63 → middle ≡ n / 64 + 63 → low ≡ n % 64 + 63 → accept (n ∷ []) ≡ long_answer high middle low
  unfolding long_answer
  long_found p q u v w = found (long p q (omega arith) refl u v w)

-- of the whole input
module _ (s : List ℕ) where
  pub no_bytes : length s < 1 → refuse 20 ≡ graph6_size_answer s
  no_bytes h = not_found (λ n a. elim a [ short p q r ↦ omega arith | long p q r t u v w ↦ omega arith ])

  -- the form of one byte
  pub one_byte : 1 ≤ length s → (get_or s 0 0 ≡ 126 → ⊥) → short_answer (get_or s 0 0) ≡ graph6_size_answer s
  unfolding short_answer
  one_byte h d =
      same_answers (get_or s 0 0 ∷ []) s
      (λ n a. elim a [ short p q r ↦ short p h r | long p q r t u v w ↦ absurd (d t) ])
      (λ n a. elim a [ short p q r ↦ short p (omega arith) r | long p q r t u v w ↦ absurd (d t) ])

  module _ (first : get_or s 0 0 ≡ 126) where
    pub cut_short : length s < 4 → refuse 20 ≡ graph6_size_answer s
    cut_short h = not_found (λ n a. elim a [ short p q r ↦ omega arith | long p q r t u v w ↦ omega arith ])

    -- the form of four
    pub four_bytes : 4 ≤ length s → long_answer (get_or s 1 0) (get_or s 2 0) (get_or s 3 0) ≡ graph6_size_answer s
    unfolding long_answer
    four_bytes h =
        same_answers (126 ∷ get_or s 1 0 ∷ get_or s 2 0 ∷ get_or s 3 0 ∷ []) s
        (λ n a. elim a [ short p q r ↦ absurd (omega arith) | long p q r t u v w ↦ long p q h first u v w ])
        (λ n a. elim a [ short p q r ↦ absurd (omega arith) | long p q r t u v w ↦ long p q (omega arith) refl u v w ])
