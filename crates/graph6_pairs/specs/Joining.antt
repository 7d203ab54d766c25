-- The words of the pairs whose bit is set, one pair after the other.
use Rattle.std.specs.Prelude.{ℕ, suc, ◌+◌, ◌%◌, ◌≤◌, ◌<◌, min, ◌≡◌, Bool, length, get_or, replicate, eqb}
use Rattle.std.proofs.Math.Nat.{min-eq_left, max-eq_right}
use Rattle.std.proofs.Common.{le_of_lt, add-one, arith, sym, ◌∙◌, length-append}
use Rattle.std.proofs.Math.Path.{ap, ap₂}
use Rattle.std.proofs.Math.Bool.{true, false, cond}
use mathlib.Core.List.{List, [], ◌∷◌, ◌++◌, map, flat_map, map-append, append_assoc, append-nil}
use Rattle.std.proofs.lemmas.List.{length-map}
use Rattle.model.specs.declared.Edge.{Edge}
use Rattle.model.specs.Lists.{upto}
use Rattle.model.specs.Edits.{with_bit, at_both_ends}
use Rattle.model.specs.Graph6.{pairs_by_higher, unpacked, chosen, graph6_edges}
use Rattle.laws.specs.Sums.Lists.{length_upto}
use Rattle.laws.specs.Layouts.EdgeEdits.{ends_within}
use Rattle.laws.specs.Graph6.Pairs.{pairs_next, pair_place, chosen_none, chosen_next}
use Rattle.laws.specs.Charts.Ends.{edge}
use Rattle.laws.specs.Charts.Words.{adjacency_of, no_edges, edge_joined}

-- the pairs whose higher end is b, and whose lower one is below a
pub lower : ℕ → ℕ → List Edge
lower b a = map (λ x. record { low = x; high = b }) (upto a)

lower_length : (b a : ℕ) → length (lower b a) ≡ a
unfolding lower
lower_length b a = length-map (upto a) (λ x. record { low = x; high = b }) ∙ length_upto a

-- the place of the pair a-b is as far as those before it go
place_length : {a b : ℕ} → a < b → b < 64 → length (pairs_by_higher (min b 64)) + a % 64 ≡ length (pairs_by_higher b ++ lower b a)
place_length {a} {b} h l =
    pair_place h l
    ∙ sym (length-append (pairs_by_higher b) (lower b a) ∙ ap (λ (k : ℕ). length (pairs_by_higher b) + k) (lower_length b a))

lower_more : (b a : ℕ) → lower b (a + 1) ≡ lower b a ++ (record { low = a; high = b } ∷ [])
unfolding lower upto
lower_more b a = ap (lower b) (add-one a) ∙ map-append (λ x. record { low = x; high = b }) (upto a) (a ∷ [])

-- some pairs and one more
module _ (bits : List ℕ) (es : List Edge) {a b : ℕ} (rises : a < b) (below : b < 64) where
  pair : Edge
  pair = record { low = a; high = b }

  pair_is : edge a b ≡ pair
  unfolding edge pair
  pair_is = ap₂ (λ (x y : ℕ). record { low = x; high = y }) (min-eq_left (le_of_lt rises)) (max-eq_right (le_of_lt rises))

  joined_next : {t : Bool} → t ≡ eqb (get_or bits (length es) 0) 1 → {adj next : List ℕ} → adj ≡ adjacency_of (chosen bits es)
      → next ≡ cond t (at_both_ends with_bit adj (a % 64) (b % 64)) adj → next ≡ adjacency_of (chosen bits (es ++ (record { low = a; high = b } ∷ [])))
  unfolding pair
  joined_next {t} e {adj} {next} words q =
      by_test t q ∙ ap adjacency_of (sym (chosen_next bits es pair ∙ ap (λ (x : Bool). chosen bits es ++ cond x (pair ∷ []) []) (sym e)))
    where
      by_test : (x : Bool) → next ≡ cond x (at_both_ends with_bit adj (a % 64) (b % 64)) adj
          → next ≡ adjacency_of (chosen bits es ++ cond x (pair ∷ []) [])
      by_test true z =
          ends_within with_bit adj (omega arith) below z
          ∙ ap (λ (x : List ℕ). at_both_ends with_bit x a b) words
          ∙ edge_joined (chosen bits es) a b (omega arith) below
          ∙ ap (λ (x : Edge). adjacency_of (chosen bits es ++ (x ∷ []))) pair_is
      by_test false z = z ∙ words ∙ ap adjacency_of (sym (append-nil (chosen bits es)))

-- the pairs of lower vertices are joined, and those of b with the vertices below a
pub record LowerJoined (bytes : List ℕ) (b : ℕ) (adj : List ℕ) (a : ℕ) : Type 0 where
  pub inside : a ≤ b
  pub words : adj ≡ adjacency_of (chosen (unpacked bytes) (pairs_by_higher b ++ lower b a))

module _ {bytes : List ℕ} {b : ℕ} {adj : List ℕ} where
  pub lower_start : adj ≡ adjacency_of (graph6_edges b bytes) → LowerJoined bytes b adj 0
  unfolding graph6_edges lower upto
  lower_start e =
      record { inside = omega arith; words = e ∙ ap (λ (es : List Edge). adjacency_of (chosen (unpacked bytes) es)) (sym (append-nil (pairs_by_higher b))) }

  module _ {a : ℕ} (j : LowerJoined bytes b adj a) where
    pub lower_next : a < b → b < 64 → {k : ℕ} → k ≡ length (pairs_by_higher (min b 64)) + a % 64 → {t : Bool}
        → t ≡ eqb (get_or (unpacked bytes) k 0) 1 → {next : List ℕ}
        → next ≡ cond t (at_both_ends with_bit adj (a % 64) (b % 64)) adj → LowerJoined bytes b next (a + 1)
    lower_next rises below {k} f {t} e {next} q =
        record {
          inside = omega arith;
          words =
              joined_next (unpacked bytes) (pairs_by_higher b ++ lower b a) rises below set_there j.words q
              ∙ ap (λ (es : List Edge). adjacency_of (chosen (unpacked bytes) es)) more;
        }
      where
        set_there : t ≡ eqb (get_or (unpacked bytes) (length (pairs_by_higher b ++ lower b a)) 0) 1
        set_there = e ∙ ap (λ (i : ℕ). eqb (get_or (unpacked bytes) i 0) 1) (f ∙ place_length rises below)

        more : (pairs_by_higher b ++ lower b a) ++ (record { low = a; high = b } ∷ []) ≡ pairs_by_higher b ++ lower b (a + 1)
        more =
            append_assoc (pairs_by_higher b) (lower b a) (record { low = a; high = b } ∷ [])
            ∙ ap (λ (es : List Edge). pairs_by_higher b ++ es) (sym (lower_more b a))

    pub lower_end : b ≤ a → adj ≡ adjacency_of (graph6_edges (suc b) bytes)
    unfolding graph6_edges lower
    lower_end h =
        j.words
        ∙ ap (λ (k : ℕ). adjacency_of (chosen (unpacked bytes) (pairs_by_higher b ++ lower b k))) all
        ∙ ap (λ (es : List Edge). adjacency_of (chosen (unpacked bytes) es)) (sym (pairs_next b))
      where
        all : a ≡ b
        all = omega (arith, j.inside)

-- no vertex has no pair
pub none_joined : (bytes : List ℕ) → replicate 64 0 ≡ adjacency_of (graph6_edges 0 bytes)
unfolding graph6_edges pairs_by_higher upto flat_map
none_joined bytes = no_edges ∙ ap adjacency_of (sym (chosen_none (unpacked bytes)))
