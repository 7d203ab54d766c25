-- The export of a layout: its two parts, its length, and each byte is from 63 to 126.
use Rattle.std.specs.Prelude.{ℕ, ◌+◌, ◌*◌, ◌-◌, ◌/◌, ◌%◌, ◌≤◌, ◌≡◌, Bool, true, false, cond, List, ◌++◌, length, T, leb}
use Rattle.std.proofs.Math.Decide.{dec_lt}
use Rattle.std.proofs.Common.{arith, ap, ap₂, ◌∙◌, length-append, le-leb}
use Rattle.std.proofs.lemmas.Bool.{lt-leb}
use Rattle.model.specs.declared.Layout.{Layout}
use Rattle.model.specs.Layouts.{valid}
use Rattle.model.specs.Graph6.{bytes_for, size_part, pairs_by_higher, pair_bits, graph6_of}
use Rattle.laws.specs.Sums.Lists.{All, none, also, all_append, all_places}
use Rattle.laws.specs.Layouts.Validity.{sound}
use Rattle.laws.specs.Graph6.Packing.{packed_in, packed_is, packed_in_length, packed_below}
use Rattle.laws.specs.Graph6.Pairs.{pairs_length, pairs_most, pair_bits_bits, pair_bits_length}
use Rattle.laws.specs.Graph6.Sizes.{size_short, size_long}
use Rattle.graph6_roundtrip.specs.Bits.{Six}

-- ---- the size, and the bytes of the graph's bits

unfoldable pub bit_bytes : ℕ → List ℕ → List ℕ
bit_bytes n adj = packed_in (bytes_for (length (pairs_by_higher n))) (pair_bits n adj)

pub export_parts : (l : Layout) → graph6_of l ≡ size_part l.n ++ bit_bytes l.n l.adjacency
unfolding graph6_of bit_bytes
export_parts l =
    let bits = pair_bits l.n l.adjacency in
    ap (λ (x : List ℕ). size_part l.n ++ x) (packed_is bits ∙ ap (λ (k : ℕ). packed_in (bytes_for k) bits) (pair_bits_length l.n l.adjacency))

-- ---- the length

pub bit_bytes_length : (n : ℕ) (adj : List ℕ) → length (bit_bytes n adj) ≡ bytes_for (length (pairs_by_higher n))
unfolding bit_bytes
bit_bytes_length n adj = packed_in_length (bytes_for (length (pairs_by_higher n))) (pair_bits n adj)

size_length : (n : ℕ) → length (size_part n) ≡ cond (leb n 62) 1 4
size_length n =
    elim (dec_lt 62 n) [
      | yes l ↦ ap length (size_long l) ∙ rw (lt-leb n 62 l)
      | no l ↦ ap length (size_short (omega arith)) ∙ rw (le-leb n 62 (omega arith))
    ]

-- one byte or four for the size, and one for each six pairs, of which there are n (n - 1) / 2
pub graph6_length : (l : Layout) → length (graph6_of l) ≡ cond (leb l.n 62) 1 4 + ((l.n * l.n - l.n) / 2 + 5) / 6
unfolding bytes_for
graph6_length l =
    ap length (export_parts l)
    ∙ length-append (size_part l.n) (bit_bytes l.n l.adjacency)
    ∙ ap₂ (λ (a b : ℕ). a + b) (size_length l.n) (bit_bytes_length l.n l.adjacency ∙ ap bytes_for (pairs_length l.n))

-- with 64 vertices, 4 bytes and 336
pub graph6_most : (l : Layout) → T (valid l) → length (graph6_of l) ≤ 340
graph6_most l t = rw (graph6_length l) (by_test (leb l.n 62))
  where
    by_test : (b : Bool) → cond b 1 4 + ((l.n * l.n - l.n) / 2 + 5) / 6 ≤ 340
    by_test true = omega (arith, pairs_length l.n, pairs_most (sound l t).small)
    by_test false = omega (arith, pairs_length l.n, pairs_most (sound l t).small)

-- ---- "63 to 126"

size_six : {n : ℕ} → n ≤ 64 → All Six (size_part n)
size_six {n} few =
    elim (dec_lt 62 n) [
      | yes l ↦
          (let tag : Six 126 = (omega arith, omega arith) in
          let high : Six (n / 4096 + 63) = (omega arith, omega arith) in
          let middle : Six (n / 64 % 64 + 63) = (omega arith, omega arith) in
          let low : Six (n % 64 + 63) = (omega arith, omega arith) in
          rw (size_long l) (also tag (also high (also middle (also low none)))))
      | no l ↦
          (let short : n ≤ 62 = omega arith in
          let byte : Six (n + 63) = (omega arith, omega arith) in
          rw (size_short short) (also byte none))
    ]

pub bit_bytes_six : (n : ℕ) (adj : List ℕ) → All Six (bit_bytes n adj)
unfolding bit_bytes
bit_bytes_six n adj =
    all_places (bit_bytes n adj)
    (λ i l. packed_below (bytes_for (length (pairs_by_higher n))) (pair_bits_bits n adj) i (omega (arith, bit_bytes_length n adj)))

pub graph6_bytes : (l : Layout) → T (valid l) → All Six (graph6_of l)
graph6_bytes l t = rw (export_parts l) (all_append (size_six (sound l t).small) (bit_bytes_six l.n l.adjacency))
