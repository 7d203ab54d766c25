-- The bits of the pairs, packed one after the other.
use Prim.Native.Nat.{ℕ, zero, suc, ◌+◌, ◌*◌, ◌-◌, ◌/◌, ◌%◌, ◌^◌, ◌≤◌, ◌<◌, min}
use Rattle.std.proofs.Common.{add-one, arith, ◌∙◌, length-append}
use Rattle.std.specs.Prelude.{◌≡◌, refl, Bool, true, false, cond, length, get_or, set, replicate, eqb}
use Rattle.std.proofs.Math.Path.{sym, ap}
use mathlib.Core.List.{List, [], ◌∷◌, ◌++◌, map, flat_map, map-append, map-map, append_assoc, append-nil}
use Rattle.std.proofs.Math.ListN.{length-map}
use Rattle.model.specs.declared.Edge.{Edge}
use Rattle.model.specs.Lists.{one, upto}
use Rattle.model.specs.Crossings.{bit, linked}
use Rattle.model.specs.Graph6.{pairs_by_higher, pair_bits}
use Rattle.laws.specs.Sums.Indicators.{one_le}
use Rattle.laws.specs.Sums.Lists.{All, all_append, all_map, all_upto, length_upto}
use Rattle.laws.specs.Graph6.Packing.{packed_in, packed_in_none, packed_in_zero, packed_in_one, packed_room}
use Rattle.laws.specs.Graph6.Pairs.{pairs_next, pair_place, pairs_length_next, pairs_most, pair_bits_bits, pair_bits_length}

-- a bit from the high one
high_bit : (k : ℕ) → 32 / 2 ^ (k % 6) ≡ 2 ^ (5 - k % 6)
high_bit k = by_place (k % 6) (omega arith)
  where
    by_place : (r : ℕ) → r < 6 → 32 / 2 ^ r ≡ 2 ^ (5 - r)
    by_place zero h = refl
    by_place (suc zero) h = refl
    by_place (suc (suc zero)) h = refl
    by_place (suc (suc (suc zero))) h = refl
    by_place (suc (suc (suc (suc zero)))) h = refl
    by_place (suc (suc (suc (suc (suc zero))))) h = refl
    by_place (suc (suc (suc (suc (suc (suc r)))))) h = absurd (omega arith)

-- a bit of six is at most 32, counted from the high one or from the low one
pub bit_few : (k : ℕ) → (32 / 2 ^ (k % 6) ≤ 32) × (1 * 2 ^ (k % 6) % 256 ≤ 32)
bit_few k = by_place (k % 6) (omega arith)
  where
    by_place : (r : ℕ) → r < 6 → (32 / 2 ^ r ≤ 32) × (1 * 2 ^ r % 256 ≤ 32)
    by_place zero h = (omega arith, omega arith)
    by_place (suc zero) h = (omega arith, omega arith)
    by_place (suc (suc zero)) h = (omega arith, omega arith)
    by_place (suc (suc (suc zero))) h = (omega arith, omega arith)
    by_place (suc (suc (suc (suc zero)))) h = (omega arith, omega arith)
    by_place (suc (suc (suc (suc (suc zero))))) h = (omega arith, omega arith)
    by_place (suc (suc (suc (suc (suc (suc r)))))) h = absurd (omega arith)

-- a bit that is set is added
pub bit_added : {t : Bool} → t ≡ true → (k : ℕ) (bytes : List ℕ)
    → set bytes (k / 6) (get_or bytes (k / 6) 0 + 32 / 2 ^ (k % 6)) ≡ cond t (set bytes (k / 6) (get_or bytes (k / 6) 0 + 2 ^ (5 - k % 6))) bytes
bit_added e k bytes = rw (e, high_bit k)

module _ (adj : List ℕ) (b : ℕ) where
  -- the bits of the pairs whose higher end is b, and whose lower one is below a
  pub lower_bits : ℕ → List ℕ
  lower_bits a = map (λ x. one (linked adj x b)) (upto a)

  lower_length : (a : ℕ) → length (lower_bits a) ≡ a
  unfolding lower_bits
  lower_length a = length-map (upto a) (λ x. one (linked adj x b)) ∙ length_upto a

  lower_more : (a : ℕ) → lower_bits (a + 1) ≡ lower_bits a ++ (one (linked adj a b) ∷ [])
  unfolding lower_bits upto
  lower_more a = ap lower_bits (add-one a) ∙ map-append (λ x. one (linked adj x b)) (upto a) (a ∷ [])

  lower_bits_lem : (a : ℕ) → All (λ x. x ≤ 1) (lower_bits a)
  unfolding lower_bits
  lower_bits_lem a = all_map (λ x. x ≤ 1) (λ x. one (linked adj x b)) (all_upto a) (λ x l. one_le (linked adj x b))

  -- behind those of lower vertices
  abbrev pub bits_to : ℕ → List ℕ
  bits_to a = pair_bits b adj ++ lower_bits a

  bits_length : (a : ℕ) → length (bits_to a) ≡ length (pairs_by_higher b) + a
  bits_length a =
      length-append (pair_bits b adj) (lower_bits a)
      ∙ ap (λ (k : ℕ). k + length (lower_bits a)) (pair_bits_length b adj)
      ∙ ap (λ (k : ℕ). length (pairs_by_higher b) + k) (lower_length a)

  bits_more : (a : ℕ) → bits_to (a + 1) ≡ bits_to a ++ (one (linked adj a b) ∷ [])
  bits_more a =
      ap (λ (xs : List ℕ). pair_bits b adj ++ xs) (lower_more a) ∙ sym (append_assoc (pair_bits b adj) (lower_bits a) (one (linked adj a b) ∷ []))

  -- all of them
  bits_all : bits_to b ≡ pair_bits (suc b) adj
  unfolding pair_bits lower_bits
  bits_all =
      sym
      (ap (map joined) (pairs_next b)
      ∙ map-append joined (pairs_by_higher b) (map to (upto b))
      ∙ ap (λ (xs : List ℕ). map joined (pairs_by_higher b) ++ xs) (map-map joined to (upto b)))
    where
      joined : Edge → ℕ
      joined e = one (linked adj e.low e.high)

      to : ℕ → Edge
      to a = record { low = a; high = b }

-- the pairs of lower vertices are packed, and those of b with the vertices below a
pub record LowerPacked (adj : List ℕ) (b : ℕ) (bytes : List ℕ) (a : ℕ) : Type 0 where
  pub inside : a ≤ b
  pub few : b < 64
  pub packs : bytes ≡ packed_in 336 (bits_to adj b a)

module _ {adj : List ℕ} {b : ℕ} {bytes : List ℕ} where
  pub lower_start : b < 64 → bytes ≡ packed_in 336 (pair_bits b adj) → LowerPacked adj b bytes 0
  unfolding lower_bits upto
  lower_start h e = record { inside = omega arith; few = h; packs = e ∙ ap (packed_in 336) (sym (append-nil (pair_bits b adj))) }

  module _ {a : ℕ} (p : LowerPacked adj b bytes a) where
    -- the place of the next bit
    module _ (h : a < b) {k : ℕ} (e : k ≡ length (pairs_by_higher (min b 64)) + a % 64) where
      at_length : k ≡ length (bits_to adj b a)
      at_length = e ∙ pair_place h p.few ∙ sym (bits_length adj b a)

      pub place_few : k < 2016
      place_few = omega (arith, at_length, bits_length adj b a, pairs_length_next b, pairs_most {n = suc b} p.few)

      pub place_free : get_or bytes (k / 6) 0 + 2 ^ (5 - k % 6) ≤ 126
      place_free = rw (at_length, p.packs) (packed_room 336 (all_append (pair_bits_bits b adj) (lower_bits_lem adj b a)) (omega (arith, at_length, place_few)))

      pub lower_next : {t : Bool} → t ≡ eqb (bit (get_or adj a 0) b) 1 → {next : List ℕ}
          → next ≡ cond t (set bytes (k / 6) (get_or bytes (k / 6) 0 + 2 ^ (5 - k % 6))) bytes → LowerPacked adj b next (a + 1)
      unfolding linked one
      lower_next {t} s {next} q =
          record {
            inside = omega arith;
            few = p.few;
            packs = by_test t q ∙ ap (λ (x : Bool). packed_in 336 (bits ++ (one x ∷ []))) s ∙ ap (packed_in 336) (sym (bits_more adj b a));
          }
        where
          bits : List ℕ
          bits = bits_to adj b a

          by_test : (x : Bool) → next ≡ cond x (set bytes (k / 6) (get_or bytes (k / 6) 0 + 2 ^ (5 - k % 6))) bytes
              → next ≡ packed_in 336 (bits ++ (one x ∷ []))
          by_test true z = rw (at_length, p.packs) at z ∙ sym (packed_in_one 336 bits (omega (arith, at_length, place_few)))
          by_test false z = z ∙ p.packs ∙ sym (packed_in_zero 336 bits)

    pub lower_end : b ≤ a → bytes ≡ packed_in 336 (pair_bits (suc b) adj)
    lower_end h =
        let all : a ≡ b = omega (arith, p.inside) in
        p.packs ∙ ap (λ (k : ℕ). packed_in 336 (bits_to adj b k)) all ∙ ap (packed_in 336) (bits_all adj b)

-- no vertex has no pair
pub none_packed : (adj : List ℕ) → replicate 336 63 ≡ packed_in 336 (pair_bits 0 adj)
unfolding pair_bits pairs_by_higher upto flat_map
none_packed adj = sym (packed_in_none 336)
