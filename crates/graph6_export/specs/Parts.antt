-- The size part of a graph and the bits of its pairs, written one behind the other.
use Rattle.std.specs.Prelude.{Result, Ok, ℕ, ◌+◌, ◌/◌, ◌%◌, ◌≤◌, ◌<◌, min, ◌≡◌, List, [], ◌∷◌, ◌++◌, length, T}
use Rattle.std.proofs.Math.Nat.{min-eq_left}
use Rattle.std.proofs.Math.Decide.{dec_lt}
use Rattle.std.proofs.Common.{arith, sym, ap₂, ◌∙◌, length-append}
use Rattle.std.proofs.Math.Path.{ap}
use Rattle.std.proofs.Math.ListN.{take}
use Rattle.model.specs.declared.Layout.{Layout}
use Rattle.model.specs.declared.refusal.Refusal.{Refusal}
use Rattle.model.specs.Answers.{refusal_number, told_by, as_written}
use Rattle.model.specs.Layouts.{valid}
use Rattle.model.specs.Writing.{write_of, written_bytes}
use Rattle.model.specs.Graph6.{bytes_for, packed, size_part, pairs_by_higher, pair_bits, graph6_of, graph6_format}
use Rattle.laws.specs.Layouts.Validity.{sound}
use Rattle.laws.specs.Buffers.Writing.{Written, written_whole}
use Rattle.laws.specs.Graph6.Packing.{packed_in, packed_in_length, packed_is, packed_length, packed_in_take}
use Rattle.laws.specs.Graph6.Sizes.{size_short, size_long}
use Rattle.laws.specs.Graph6.Pairs.{pairs_most, pair_bits_length}
use Rattle.text.specs.Room.{Put, put_behind}
use Rattle.buffer_checks.specs.Answers.{Asked, is_valid_lem, room, written, passed}

-- a graph of n vertices
unfoldable pub graph6_with : ℕ → List ℕ → List ℕ
graph6_with n adj = size_part n ++ packed (pair_bits n adj)

-- how many bytes the call counts
abbrev pub counted : ℕ → ℕ
counted n = length (size_part n) + bytes_for (length (pairs_by_higher (min n 64)))

-- ---- the size part

pub short_size : {n : ℕ} → n ≤ 62 → (n + 63) ∷ [] ≡ size_part n
short_size h = sym (size_short h)

pub long_size : {n : ℕ} → 62 < n → n ≤ 64 → 126 ∷ 63 ∷ (n / 64 + 63) ∷ (n % 64 + 63) ∷ [] ≡ size_part n
long_size {n} h few =
    let top : 0 ≡ n / 4096 = omega arith in
    let rest : n / 64 ≡ n / 64 % 64 = omega arith in
    ap₂ (λ (a b : ℕ). 126 ∷ (a + 63) ∷ (b + 63) ∷ (n % 64 + 63) ∷ []) top rest ∙ sym (size_long h)

size_most : (n : ℕ) → length (size_part n) ≤ 4
size_most n =
    elim (dec_lt 62 n) [ yes l ↦ rw (size_long l) (omega arith) | no l ↦ (let few : n ≤ 62 = omega arith in rw (size_short few) (omega arith)) ]

-- ---- both parts

module _ {n : ℕ} (few : n ≤ 64) where
  -- as many bytes are counted as there are
  data_long : (adj : List ℕ) → bytes_for (length (pairs_by_higher (min n 64))) ≡ length (packed (pair_bits n adj))
  data_long adj =
      ap (λ (k : ℕ). bytes_for (length (pairs_by_higher k))) (min-eq_left few)
      ∙ sym (packed_length (pair_bits n adj) ∙ ap bytes_for (pair_bits_length n adj))

  -- the bytes that hold the bits of the pairs
  data_part : (adj : List ℕ) {size : ℕ} → size ≡ bytes_for (length (pairs_by_higher (min n 64))) → size ≤ 336
      → take size (packed_in 336 (pair_bits (min n 64) adj)) ≡ packed (pair_bits n adj)
  data_part adj e h =
      packed_in_take (pair_bits (min n 64) adj) h
      ∙ ap₂ packed_in (e ∙ data_long adj ∙ packed_length (pair_bits n adj)) (ap (λ (k : ℕ). pair_bits k adj) (min-eq_left few))
      ∙ sym (packed_is (pair_bits n adj))

-- no graph has more
data_most : (n : ℕ) → bytes_for (length (pairs_by_higher (min n 64))) ≤ 336
unfolding bytes_for
data_most n = omega (arith, pairs_most {n = min n 64} (omega arith))

-- so they are among those of the array
pub data_inside : (n : ℕ) {size : ℕ} → size ≡ bytes_for (length (pairs_by_higher (min n 64))) → (pairs : List ℕ) {bits : List ℕ} → bits ≡ packed_in 336 pairs
    → size ≤ length bits
data_inside n e pairs q = omega (arith, e, data_most n, ap length q, packed_in_length 336 pairs)

-- of a valid layout
pub counted_is : (l : Layout) → T (valid l) → counted l.n ≡ length (graph6_of l)
unfolding graph6_of
counted_is l t =
    ap (λ (k : ℕ). length (size_part l.n) + k) (data_long (sound l t).small l.adjacency)
    ∙ sym (length-append (size_part l.n) (packed (pair_bits l.n l.adjacency)))

module _ {n : ℕ} (adj : List ℕ) {start : List ℕ} (few : n ≤ 64) (room : counted n ≤ length start) where
  pub parts_put : {bytes : List ℕ} {at : ℕ} → Put (length (size_part n)) start 0 (size_part n) bytes at
      → {bits : List ℕ} → bits ≡ packed_in 336 (pair_bits (min n 64) adj) → {size : ℕ} → size ≡ bytes_for (length (pairs_by_higher (min n 64)))
      → {next : List ℕ} {end : ℕ} → Put (length (take size bits)) bytes at (take size bits) next end → Written start 0 (graph6_with n adj) next end
  unfolding graph6_with
  parts_put {bytes} {at} p {bits} q {size} e {next} {end} r =
      let first = p.fits (omega arith) in
      let same : take size bits ≡ packed (pair_bits n adj) = ap (take size) q ∙ data_part few adj e (omega (arith, data_most n)) in
      put_behind first (rw same at r) (omega (arith, first.place, data_long few adj))

-- ---- the call

-- the lengths of the two parts, as they were found
module _ (n : ℕ) {size bits : ℕ} (p : size ≡ length (size_part n)) (q : bits ≡ bytes_for (length (pairs_by_higher (min n 64)))) where
  pub parts_long : size + bits ≡ counted n
  parts_long = ap₂ (λ (a b : ℕ). a + b) p q

  pub parts_few : size + bits ≤ 340
  parts_few = omega (arith, p, q, data_most n, size_most n)

-- where all checks have passed
module _ {l : Layout} {buffer : List ℕ} {own long : ℕ} {answer : Result (Unit {0}) Refusal} (a : Asked graph6_format l buffer own long (refusal_number answer))
    {x : Unit {0}} (told : answer ≡ Ok x) where
  z : refusal_number answer ≡ 0
  z = passed a told

  pub fits : long ≡ counted l.n → (l.n ≤ 64) × (counted l.n ≤ length buffer)
  fits e = ((sound l (is_valid_lem a z)).small, rw e at (room a z))

  pub graph_written : {after : List ℕ} {end : ℕ} → Written buffer 0 (graph6_with l.n l.adjacency) after end
      → (as_written (Ok long) ≡ write_of graph6_format l buffer) × (after ≡ written_bytes graph6_format l buffer)
  unfolding graph6_with graph6_of as_written told_by
  graph_written w = written a z (written_whole w).0
