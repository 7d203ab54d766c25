-- Six bits a byte: the bits of some bytes, the bytes of some bits, and what one bit more does to these.
use Rattle.std.specs.Prelude.{ℕ, zero, suc, ◌+◌, ◌*◌, ◌-◌, ◌/◌, ◌%◌, ◌^◌, ◌≤◌, ◌<◌, ◌≡◌, refl, length, get_or, set, take, drop, replicate, eqb}
use Rattle.std.proofs.Common.{zero-mul, not-suc-le-zero, le_of_suc-le-suc, arith, sym, ap, ◌∙◌, length-append, length-set, ext_get_or, length-take-le, get_or-take, get_or-drop, get_or-append-add, get_or-set_same, get_or-set_other}
use Rattle.std.proofs.Math.Nat.{div-add-mod}
use Rattle.std.proofs.Math.Decide.{ℕ_discrete, dec_lt}
use mathlib.Core.List.{List, [], ◌∷◌, ◌++◌, map, flat_map}
use Rattle.std.proofs.lemmas.List.{length-map, length-replicate, get_or-replicate}
use Rattle.std.proofs.Math.ListN.{get_or-append, get_or-eq_default}
use Rattle.std.proofs.Math.Seq.{get_or-append_seam}
use Rattle.model.specs.Lists.{one, upto}
use Rattle.model.specs.Crossings.{bit}
use Rattle.model.specs.Graph6.{byte_of, bytes_for, packed, bits_of, unpacked}
use Rattle.laws.specs.Sums.Indicators.{less, same, more, order, one_eq, one_ne}
use Rattle.laws.specs.Sums.Ranges.{sum, sum_ext, sum_zero, sum_add, sum_scale, sum_at}
use Rattle.laws.specs.Sums.Lists.{All, none, also, all_append, all_at, all_places, length_upto, map_upto_at, sum_over_upto}
use Rattle.laws.specs.Sums.Bits.{bit_lt}

-- ---- the bits of some bytes

bits_of_length : (byte : ℕ) → length (bits_of byte) ≡ 6
unfolding bits_of
bits_of_length byte = length-map (upto 6) (λ j. bit (byte - 63) (5 - j)) ∙ length_upto 6

pub unpacked_length : (bytes : List ℕ) → length (unpacked bytes) ≡ 6 * length bytes
unfolding unpacked flat_map
unpacked_length [] = refl
unpacked_length (b ∷ bytes) = length-append (bits_of b) (unpacked bytes) ∙ omega (arith, bits_of_length b, unpacked_length bytes)

-- bit j of byte i, from the high bit
pub unpacked_bit : (bytes : List ℕ) (i j : ℕ) → i < length bytes → j < 6 → get_or (unpacked bytes) (6 * i + j) 0 ≡ bit (get_or bytes i 0 - 63) (5 - j)
unfolding unpacked flat_map bits_of
unpacked_bit [] i j h l = absurd (not-suc-le-zero h)
unpacked_bit (b ∷ bytes) zero j h l =
    ap (λ (k : ℕ). get_or (unpacked (b ∷ bytes)) k 0) (first j)
    ∙ get_or-append (bits_of b) (unpacked bytes) 0 j (omega (arith, bits_of_length b))
    ∙ map_upto_at (λ k. bit (b - 63) (5 - k)) 6 j l
  where
    first : (j : ℕ) → 6 * 0 + j ≡ j
    first j = omega arith
unpacked_bit (b ∷ bytes) (suc i) j h l =
    ap (λ (k : ℕ). get_or (unpacked (b ∷ bytes)) k 0) later
    ∙ get_or-append-add (bits_of b) (unpacked bytes) (6 * i + j) 0
    ∙ unpacked_bit bytes i j (le_of_suc-le-suc h) l
  where
    later : 6 * suc i + j ≡ length (bits_of b) + (6 * i + j)
    later = omega (arith, bits_of_length b)

pub unpacked_at : (bytes : List ℕ) (k : ℕ) → k / 6 < length bytes → get_or (unpacked bytes) k 0 ≡ bit (get_or bytes (k / 6) 0 - 63) (5 - k % 6)
unpacked_at bytes k h = ap (λ (i : ℕ). get_or (unpacked bytes) i 0) (sym (div-add-mod k 6)) ∙ unpacked_bit bytes (k / 6) (k % 6) h (omega arith)

-- each is 0 or 1
pub unpacked_bits : (bytes : List ℕ) → All (λ b. b ≤ 1) (unpacked bytes)
unpacked_bits bytes =
    all_places (unpacked bytes)
    (λ k l. rw (unpacked_at bytes k (omega (arith, unpacked_length bytes))) (le_of_suc-le-suc (bit_lt (get_or bytes (k / 6) 0 - 63) (5 - k % 6))))

-- ---- the bytes of some bits

-- as m bytes, with 0 for the bits that are not there
unfoldable pub packed_in : ℕ → List ℕ → List ℕ
packed_in m bits = map (λ i. byte_of (drop (6 * i) bits)) (upto m)

pub packed_is : (bits : List ℕ) → packed bits ≡ packed_in (bytes_for (length bits)) bits
unfolding packed packed_in
packed_is bits = refl

pub packed_in_length : (m : ℕ) (bits : List ℕ) → length (packed_in m bits) ≡ m
unfolding packed_in
packed_in_length m bits = length-map (upto m) (λ i. byte_of (drop (6 * i) bits)) ∙ length_upto m

pub packed_length : (bits : List ℕ) → length (packed bits) ≡ bytes_for (length bits)
packed_length bits = ap length (packed_is bits) ∙ packed_in_length (bytes_for (length bits)) bits

pub packed_in_at : (m : ℕ) (bits : List ℕ) (i : ℕ) → i < m → get_or (packed_in m bits) i 0 ≡ 63 + sum 6 (λ j. get_or bits (6 * i + j) 0 * 2 ^ (5 - j))
unfolding packed_in byte_of
packed_in_at m bits i h =
    map_upto_at (λ i. byte_of (drop (6 * i) bits)) m i h
    ∙ ap (λ (x : ℕ). 63 + x)
    (sum_over_upto (λ j. get_or (drop (6 * i) bits) j 0 * 2 ^ (5 - j)) 6
    ∙ sum_ext 6 (λ j. get_or (drop (6 * i) bits) j 0 * 2 ^ (5 - j)) (λ j. get_or bits (6 * i + j) 0 * 2 ^ (5 - j))
    (λ j l. ap (λ (b : ℕ). b * 2 ^ (5 - j)) (get_or-drop (6 * i) bits j 0)))

-- a list of m bytes with the same bytes
pub packed_in_ext : (m : ℕ) (bits : List ℕ) {bytes : List ℕ} → length bytes ≡ m → ((i : ℕ) → i < m → get_or (packed_in m bits) i 0 ≡ get_or bytes i 0)
    → packed_in m bits ≡ bytes
packed_in_ext m bits {bytes} long at =
    ext_get_or 0 (packed_in m bits) bytes (packed_in_length m bits ∙ sym long) (λ i l. at i (omega (arith, packed_in_length m bits)))

-- the same bits, where one that is not there is 0
pub packed_in_same : (m : ℕ) (xs ys : List ℕ) → ((k : ℕ) → get_or xs k 0 ≡ get_or ys k 0) → packed_in m xs ≡ packed_in m ys
packed_in_same m xs ys h =
    packed_in_ext m xs (packed_in_length m ys)
    (λ i l.
    packed_in_at m xs i l
    ∙ ap (λ (x : ℕ). 63 + x)
    (sum_ext 6 (λ j. get_or xs (6 * i + j) 0 * 2 ^ (5 - j)) (λ j. get_or ys (6 * i + j) 0 * 2 ^ (5 - j)) (λ j b. ap (λ (x : ℕ). x * 2 ^ (5 - j)) (h (6 * i + j))))
    ∙ sym (packed_in_at m ys i l))

-- no bits
pub packed_in_none : (m : ℕ) → packed_in m [] ≡ replicate m 63
packed_in_none m =
    packed_in_ext m [] (length-replicate m 63)
    (λ i l.
    packed_in_at m [] i l
    ∙ ap (λ (x : ℕ). 63 + x) (sum_zero 6 (λ j. 0 * 2 ^ (5 - j)) (λ j b. zero-mul (2 ^ (5 - j))))
    ∙ sym (get_or-replicate m i 63 0 l))

-- the first bytes
pub packed_in_take : {k m : ℕ} (bits : List ℕ) → k ≤ m → take k (packed_in m bits) ≡ packed_in k bits
packed_in_take {k} {m} bits h =
    sym
    (packed_in_ext k bits (length-take-le k (packed_in m bits) (omega (arith, packed_in_length m bits)))
    (λ i l.
    (let below : i < m = omega arith in
    packed_in_at k bits i l ∙ sym (get_or-take k (packed_in m bits) i 0 l ∙ packed_in_at m bits i below))))

-- ---- one bit more

-- the place of a bit: its byte, and which of the six it is
place_is : (i j k : ℕ) → j < 6 → one (eqb (6 * i + j) k) ≡ one (eqb i (k / 6)) * one (eqb (k % 6) j)
place_is i j k h =
    elim (ℕ_discrete (6 * i + j) k) [
      | yes e ↦ rw (one_eq (6 * i + j) k e, one_eq i (k / 6) (omega arith), one_eq (k % 6) j (omega arith))
      | no d ↦
          rw (one_ne (6 * i + j) k d)
          (elim (ℕ_discrete i (k / 6)) [
            | yes e ↦ rw (one_ne (k % 6) j (λ f. d (omega arith))) (omega arith)
            | no f ↦ rw (one_ne i (k / 6) f) (omega arith)
          ])
    ]

module _ (bits : List ℕ) (b : ℕ) where
  bit_more : (k : ℕ) → get_or (bits ++ (b ∷ [])) k 0 ≡ get_or bits k 0 + one (eqb k (length bits)) * b
  bit_more k =
      elim (order k (length bits)) [
        | less l ↦ rw (get_or-append bits (b ∷ []) 0 k l, one_ne k (length bits) (λ e. omega arith)) (omega arith)
        | same e ↦
            rw (one_eq k (length bits) e, e, get_or-append_seam bits b [] 0)
            (omega (arith, get_or-eq_default bits 0 {n = length bits} (omega arith)))
        | more l ↦
            get_or-eq_default (bits ++ (b ∷ [])) 0 (omega (arith, length-append bits (b ∷ [])))
            ∙ rw (one_ne k (length bits) (λ e. omega arith), get_or-eq_default bits 0 {n = k} (omega arith)) (omega arith)
      ]

  -- it adds its power of two to the byte it belongs to
  packed_in_more : (m i : ℕ) → i < m
      → get_or (packed_in m (bits ++ (b ∷ []))) i 0 ≡ get_or (packed_in m bits) i 0 + one (eqb i (length bits / 6)) * (b * 2 ^ (5 - length bits % 6))
  packed_in_more m i h =
      packed_in_at m (bits ++ (b ∷ [])) i h
      ∙ ap (λ (x : ℕ). 63 + x)
      (sum_ext 6 (λ j. get_or (bits ++ (b ∷ [])) (6 * i + j) 0 * 2 ^ (5 - j)) (λ j. old j + here * new j) (λ j l. term j l)
      ∙ sum_add 6 old (λ j. here * new j)
      ∙ ap (λ (x : ℕ). sum 6 old + x) (sum_scale 6 here new ∙ ap (λ (x : ℕ). here * x) (sum_at 6 (length bits % 6) (λ j. b * 2 ^ (5 - j)) (omega arith))))
      ∙ omega (arith, packed_in_at m bits i h)
    where
      here : ℕ
      here = one (eqb i (length bits / 6))

      old : ℕ → ℕ
      old j = get_or bits (6 * i + j) 0 * 2 ^ (5 - j)

      new : ℕ → ℕ
      new j = one (eqb (length bits % 6) j) * (b * 2 ^ (5 - j))

      term : (j : ℕ) → j < 6 → get_or (bits ++ (b ∷ [])) (6 * i + j) 0 * 2 ^ (5 - j) ≡ old j + here * new j
      term j l = rw (bit_more (6 * i + j), place_is i j (length bits) l) (omega arith)

pub packed_in_zero : (m : ℕ) (bits : List ℕ) → packed_in m (bits ++ (0 ∷ [])) ≡ packed_in m bits
packed_in_zero m bits = packed_in_ext m (bits ++ (0 ∷ [])) (packed_in_length m bits) (λ i l. packed_in_more bits 0 m i l ∙ omega arith)

pub packed_in_one : (m : ℕ) (bits : List ℕ) → length bits / 6 < m
    → packed_in m (bits ++ (1 ∷ []))
    ≡ set (packed_in m bits) (length bits / 6) (get_or (packed_in m bits) (length bits / 6) 0 + 2 ^ (5 - length bits % 6))
packed_in_one m bits h =
    packed_in_ext m (bits ++ (1 ∷ [])) (length-set (packed_in m bits) q byte ∙ packed_in_length m bits)
    (λ i l. packed_in_more bits 1 m i l ∙ sym (at_place i))
  where
    q : ℕ
    q = length bits / 6

    byte : ℕ
    byte = get_or (packed_in m bits) q 0 + 2 ^ (5 - length bits % 6)

    at_place : (i : ℕ) → get_or (set (packed_in m bits) q byte) i 0 ≡ get_or (packed_in m bits) i 0 + one (eqb i q) * (1 * 2 ^ (5 - length bits % 6))
    at_place i =
        elim (ℕ_discrete i q) [
          | yes e ↦ rw (e, get_or-set_same (packed_in m bits) q byte 0 (omega (arith, packed_in_length m bits)), one_eq q q refl) (omega arith)
          | no d ↦ rw (get_or-set_other (packed_in m bits) q i byte 0 d, one_ne i q d) (omega arith)
        ]

-- ---- bits of 0 and 1 make bytes from 63 to 126

-- also where no bit is
pub bit_most : {bits : List ℕ} → All (λ b. b ≤ 1) bits → (k : ℕ) → get_or bits k 0 ≤ 1
bit_most {bits} small k =
    elim (dec_lt k (length bits)) [
      | yes l ↦ all_at 0 small k l
      | no l ↦ rw (get_or-eq_default bits 0 {n = k} (omega arith)) (omega arith)
    ]

pub six_most : (f : ℕ → ℕ) → ((j : ℕ) → f j ≤ 1) → sum 6 (λ j. f j * 2 ^ (5 - j)) ≤ 63
unfolding sum
six_most f h = omega (arith, h 0, h 1, h 2, h 3, h 4, h 5)

pub packed_below : (m : ℕ) {bits : List ℕ} → All (λ b. b ≤ 1) bits → (i : ℕ) → i < m → (63 ≤ get_or (packed_in m bits) i 0) × (get_or (packed_in m bits) i 0 ≤ 126)
packed_below m {bits} small i h =
    let most = six_most (λ j. get_or bits (6 * i + j) 0) (λ j. bit_most small (6 * i + j)) in
    rw (packed_in_at m bits i h) (omega arith, omega arith)

-- the place of the next bit is free
pub packed_room : (m : ℕ) {bits : List ℕ} → All (λ b. b ≤ 1) bits → length bits / 6 < m
    → get_or (packed_in m bits) (length bits / 6) 0 + 2 ^ (5 - length bits % 6) ≤ 126
packed_room m {bits} small h = omega (arith, (packed_below m (all_append small (also {xs = []} one_most none)) (length bits / 6) h).1, with_bit_lem)
  where
    one_most : 1 ≤ 1
    one_most = omega arith

    with_bit_lem : get_or (packed_in m (bits ++ (1 ∷ []))) (length bits / 6) 0 ≡ get_or (packed_in m bits) (length bits / 6) 0 + 2 ^ (5 - length bits % 6)
    with_bit_lem = packed_in_more bits 1 m (length bits / 6) h ∙ rw (one_eq (length bits / 6) (length bits / 6) refl) (omega arith)
