-- Text written into a list, part after part; and decimal numbers.
use Rattle.std.specs.Prelude.{ℕ, zero, suc, ◌+◌, ◌/◌, ◌%◌, ◌^◌, ◌≤◌, ◌<◌, ◌≡◌, length, get_or, take, drop, set}
use Rattle.std.proofs.Common.{add_assoc, add-zero, zero-add, lt_of_lt_of_le, div-lt_iff_lt-mul, not-suc-le-zero, pow-suc, add-one, arith, sym, ap, ap₂, ◌∙◌, length-append, length-drop, take-append-drop, take-suc, take_at, length-take-le, drop-drop, lt-ltb, le-ltb}
use Rattle.std.proofs.Math.Nat.{div-lt_self}
use mathlib.Core.List.{List, [], ◌∷◌, ◌++◌, flat_map, append_assoc, append-nil}
use Rattle.std.proofs.lemmas.List.{set_split}
use Rattle.std.proofs.Math.Seq.{drop-append-add}
use Rattle.model.specs.Listing.{decimal_in, decimal}
use Rattle.laws.specs.Sums.Indicators.{Order, less, same, more, order}
use Rattle.laws.specs.Sums.Lists.{flat_map_append}

-- xs with the bytes t written over it from place at on
unfoldable pub written : List ℕ → ℕ → List ℕ → List ℕ
written xs at t = take at xs ++ (t ++ drop (at + length t) xs)

pub written_length : (xs : List ℕ) (at : ℕ) (t : List ℕ) → at + length t ≤ length xs → length (written xs at t) ≡ length xs
unfolding written
written_length xs at t h =
    length-append (take at xs) (t ++ drop (at + length t) xs)
    ∙ ap (λ (k : ℕ). length (take at xs) + k) (length-append t (drop (at + length t) xs))
    ∙ omega (arith, length-take-le at xs (omega arith), length-drop (at + length t) xs)

pub written_nothing : (xs : List ℕ) (at : ℕ) → written xs at [] ≡ xs
unfolding written
written_nothing xs at = ap (λ (k : ℕ). take at xs ++ drop k xs) (add-zero at) ∙ take-append-drop at xs

-- one part behind the other is both in one
pub written_more : (xs : List ℕ) (at : ℕ) (s t : List ℕ) → at + length s ≤ length xs
    → written (written xs at s) (at + length s) t ≡ written xs at (s ++ t)
unfolding written
written_more xs at s t h =
    ap₂ (λ (x y : List ℕ). x ++ (t ++ y)) front back
    ∙ append_assoc (take at xs) s (t ++ drop (at + length s + length t) xs)
    ∙ ap (λ (x : List ℕ). take at xs ++ x) (sym (append_assoc s t (drop (at + length s + length t) xs)))
    ∙ ap (λ (k : ℕ). take at xs ++ (s ++ t ++ drop k xs)) (add_assoc at (length s) (length t) ∙ ap (λ (k : ℕ). at + k) (sym (length-append s t)))
  where
    rest : List ℕ
    rest = drop (at + length s) xs

    both_length : length (take at xs ++ s) ≡ at + length s
    both_length = length-append (take at xs) s ∙ ap (λ (k : ℕ). k + length s) (length-take-le at xs (omega arith))

    whole : take at xs ++ (s ++ rest) ≡ (take at xs ++ s) ++ rest
    whole = sym (append_assoc (take at xs) s rest)

    front : take (at + length s) (take at xs ++ (s ++ rest)) ≡ take at xs ++ s
    front = ap (take (at + length s)) whole ∙ take_at (take at xs ++ s) rest (at + length s) both_length

    back : drop (at + length s + length t) (take at xs ++ (s ++ rest)) ≡ drop (at + length s + length t) xs
    back =
        ap (drop (at + length s + length t)) whole
        ∙ ap (λ (k : ℕ). drop (k + length t) ((take at xs ++ s) ++ rest)) (sym both_length)
        ∙ drop-append-add (take at xs ++ s) rest (length t)
        ∙ drop-drop (length t) (at + length s) xs

-- one byte
pub written_byte : (xs : List ℕ) (at b : ℕ) → at < length xs → set xs at b ≡ written xs at (b ∷ [])
unfolding written
written_byte xs at b h = set_split xs at b h ∙ ap (λ (k : ℕ). take at xs ++ (b ∷ drop k xs)) (sym (add-one at))

-- ---- decimal numbers

decimal_last : (k x : ℕ) → x < 10 → decimal_in (suc k) x ≡ (48 + x) ∷ []
unfolding decimal_in
decimal_last k x h = rw (lt-ltb x 10 h, decimal_in)

decimal_step : (k x : ℕ) → 10 ≤ x → decimal_in (suc k) x ≡ decimal_in k (x / 10) ++ ((48 + x % 10) ∷ [])
unfolding decimal_in
decimal_step k x h = rw (le-ltb x 10 h, decimal_in)

tenth_lt : (k x : ℕ) → 10 ≤ x → x < suc k → x / 10 < k
tenth_lt k x h l = lt_of_lt_of_le (div-lt_self {n = x} {k = 10} (omega arith) (omega arith)) (omega arith)

decimal_fuel : (k m x : ℕ) → x < k → x < m → decimal_in k x ≡ decimal_in m x
decimal_fuel zero m x a b = absurd (not-suc-le-zero a)
decimal_fuel (suc k) zero x a b = absurd (not-suc-le-zero b)
decimal_fuel (suc k) (suc m) x a b = by_size (order x 10) (λ h. decimal_fuel k m (x / 10) (tenth_lt k x h a) (tenth_lt m x h b))
  where
    more_digits : 10 ≤ x → decimal_in k (x / 10) ≡ decimal_in m (x / 10) → decimal_in (suc k) x ≡ decimal_in (suc m) x
    more_digits h e = decimal_step k x h ∙ ap (λ (t : List ℕ). t ++ ((48 + x % 10) ∷ [])) e ∙ sym (decimal_step m x h)

    by_size : Order x 10 → (10 ≤ x → decimal_in k (x / 10) ≡ decimal_in m (x / 10)) → decimal_in (suc k) x ≡ decimal_in (suc m) x
    by_size (less l) r = decimal_last k x l ∙ sym (decimal_last m x l)
    by_size (same e) r = more_digits (omega arith) (r (omega arith))
    by_size (more l) r = more_digits (omega arith) (r (omega arith))

pub decimal_digit : (x : ℕ) → x < 10 → decimal x ≡ (48 + x) ∷ []
unfolding decimal
decimal_digit x h = decimal_last x x h

pub decimal_more : (x : ℕ) → 10 ≤ x → decimal x ≡ decimal (x / 10) ++ ((48 + x % 10) ∷ [])
unfolding decimal
decimal_more x h =
    decimal_step x x h
    ∙ ap (λ (t : List ℕ). t ++ ((48 + x % 10) ∷ []))
    (decimal_fuel x (suc (x / 10)) (x / 10) (tenth_lt x x h (omega arith)) (omega arith))

-- as many digits as the power of ten says
pub decimal_length : (d x : ℕ) → x < 10 ^ suc d → length (decimal x) ≤ suc d
decimal_length zero x h = rw (decimal_digit x h) (omega arith)
decimal_length (suc d) x h = by_size (order x 10) (decimal_length d (x / 10) ((div-lt_iff_lt-mul {k = 10} (omega arith)).1 (rw (pow-suc 10 (suc d)) at h)))
  where
    longer : 10 ≤ x → length (decimal (x / 10)) ≤ suc d → length (decimal x) ≤ suc (suc d)
    longer l r = rw (decimal_more x l, length-append (decimal (x / 10)) ((48 + x % 10) ∷ [])) (omega arith)

    by_size : Order x 10 → length (decimal (x / 10)) ≤ suc d → length (decimal x) ≤ suc (suc d)
    by_size (less l) r = rw (decimal_digit x l) (omega arith)
    by_size (same e) r = longer (omega arith) r
    by_size (more l) r = longer (omega arith) r

-- ---- parts written one after the other

-- the text has been written over the bytes of start from a place on, and at is where it ends
pub record Written (start : List ℕ) (base : ℕ) (parts bytes : List ℕ) (at : ℕ) : Type 0 where
  pub held : bytes ≡ written start base parts
  pub place : at ≡ base + length parts

pub written_none : (start : List ℕ) (base : ℕ) → Written start base [] start base
written_none start base = record { held = sym (written_nothing start base); place = sym (add-zero base) }

module _ {start : List ℕ} {base : ℕ} {s bytes : List ℕ} {at : ℕ} (w : Written start base s bytes at) where
  pub written_size : at ≤ length start → length bytes ≡ length start
  written_size h = ap length w.held ∙ written_length start base s (omega (arith, w.place))

  pub written_step : (t : List ℕ) {next : List ℕ} {to : ℕ} → at ≤ length start → next ≡ written bytes at t → to ≡ at + length t → Written start base
      (s ++ t) next to
  written_step t {next} {to} h e p =
      record {
        held = e ∙ ap₂ (λ (x : List ℕ) (k : ℕ). written x k t) w.held w.place ∙ written_more start base s t (omega (arith, w.place));
        place = p ∙ ap (λ (k : ℕ). k + length t) w.place ∙ add_assoc base (length s) (length t) ∙ ap (λ (k : ℕ). base + k) (sym (length-append s t));
      }

-- from the first byte on: the bytes behind the text are as they were
pub written_whole : {start s bytes : List ℕ} {at : ℕ} → Written start 0 s bytes at → (bytes ≡ s ++ drop (length s) start) × (at ≡ length s)
unfolding written
written_whole {start} {s} w = (w.held ∙ ap (λ (k : ℕ). s ++ drop k start) (zero-add (length s)), w.place ∙ zero-add (length s))

-- a function of each entry, one entry more
pub flat_map_next : (f : ℕ → List ℕ) (xs : List ℕ) (i : ℕ) → i < length xs → flat_map f (take (i + 1) xs) ≡ flat_map f (take i xs) ++ f (get_or xs i 0)
unfolding flat_map
flat_map_next f xs i h =
    ap (λ (k : ℕ). flat_map f (take k xs)) (add-one i) ∙ ap (flat_map f) (take-suc xs i 0 h) ∙ flat_map_append f (take i xs) (get_or xs i 0 ∷ [])
    ∙ ap (λ (l : List ℕ). flat_map f (take i xs) ++ l) (append-nil (f (get_or xs i 0)))

-- one more byte of a text
pub written_next : (xs : List ℕ) (at : ℕ) (t : List ℕ) (i : ℕ) → i < length t → at + length t ≤ length xs
    → set (written xs at (take i t)) (at + i) (get_or t i 0) ≡ written xs at (take (i + 1) t)
written_next xs at t i h l =
    let size : length (take i t) ≡ i = length-take-le i t (omega arith) in
    written_byte (written xs at (take i t)) (at + i) (get_or t i 0) (omega (arith, written_length xs at (take i t) (omega arith)))
    ∙ ap (λ (k : ℕ). written (written xs at (take i t)) (at + k) (get_or t i 0 ∷ [])) (sym size)
    ∙ written_more xs at (take i t) (get_or t i 0 ∷ []) (omega arith)
    ∙ ap (written xs at) (sym (take-suc t i 0 h) ∙ ap (λ (k : ℕ). take k t) (sym (add-one i)))
