-- What a chord counts: an edge crosses what the chord between its places crosses, and how many these are from one place to the next.
use Prim.Native.Nat.{ℕ, suc, ◌+◌, ◌*◌, ◌<◌}
use Rattle.std.proofs.Common.{add_comm, ◌∙◌}
use native.Mathlib.Omega.{arith}
use Rattle.std.specs.Prelude.{◌≡◌, List, ◌++◌, drop, ltb}
use Rattle.std.proofs.Math.Path.{sym, ap, ap₂}
use Rattle.std.proofs.Math.ListN.{take}
use Rattle.model.specs.declared.Edge.{Edge}
use Rattle.model.specs.Lists.{one, sum_over, place}
use Rattle.model.specs.Crossings.{weighted_edges, edge_weight}
use Rattle.model.specs.EdgeCrossings.{crossings_with}
use Rattle.laws.specs.Sums.Indicators.{less, same, more, order, one_ge}
use Rattle.laws.specs.Sums.Ranges.{double, halves, sum, sum_ext, sum_add, sum_scale, sum_swap}
use Rattle.laws.specs.Sums.Lists.{sum_over_ext, sum_over_append, sum_over_last}
use Rattle.laws.specs.Sums.Pairs.{pair_sum, pair_sum_ext, pair_sum_twice, Symmetric, pair_vertices}
use Rattle.laws.specs.Orders.Permutations.{at, Permutation, at_lt, place_of_at, place_below, sum_before, sum_behind, sum_between, from_place}
use Rattle.laws.specs.Crossings.Alternation.{cross, rising, cross_ordered, cross_swap_left, cross_swap_right}
use Rattle.laws.specs.Crossings.Counting.{placed}
use Rattle.laws.specs.Crossings.Edges.{Within, edge_crossed}
use Rattle.laws.specs.Crossings.Chords.{joining, inside, beyond, chord_crossings, sum_over_out, inside_below, inside_next, chord_closed, chord_opened}

-- ---- what it counts

-- 1 at a place strictly between i and k, and at one beyond them
within : ℕ → ℕ → ℕ → ℕ
within i k a = one (ltb i a) * one (ltb a k)

outside : ℕ → ℕ → ℕ → ℕ
outside i k b = one (ltb b i) + one (ltb k b)

-- a chord crosses an edge that has one end strictly between its places and one beyond
crossed : (i k a b : ℕ) → i < k → a < b → cross i k a b ≡ within i k a * outside i k b + within i k b * outside i k a
unfolding within outside rising
crossed i k a b ik ab = cross_ordered i k a b ik ab ∙ ap₂ (λ (x y : ℕ). x + y) up down
  where
    up : rising i a k b ≡ within i k a * outside i k b
    up =
        elim (order b i) [
          | less l ↦ rw (one_ge i a (omega arith)) (omega arith)
          | same e ↦ rw (one_ge b i (omega arith)) (omega arith)
          | more l ↦ rw (one_ge b i (omega arith)) (omega arith)
        ]

    down : rising a i b k ≡ within i k b * outside i k a
    down =
        elim (order k a) [
          | less l ↦ rw (one_ge b k (omega arith)) (omega arith)
          | same e ↦ rw (one_ge k a (omega arith)) (omega arith)
          | more l ↦ rw (one_ge k a (omega arith)) (omega arith)
        ]

module _ {n : ℕ} {o : List ℕ} (perm : Permutation n o) {W : ℕ → ℕ → ℕ} (symmetry : Symmetric n W) where
  w : ℕ → ℕ → ℕ
  w = placed o W

  w_symmetric : Symmetric n w
  unfolding w
  w_symmetric =
      record {
        swap = λ a b k l. symmetry.swap (at o a) (at o b) (at_lt perm a k) (at_lt perm b l);
        diagonal = λ a k. symmetry.diagonal (at o a) (at_lt perm a k);
      }

  module _ (i k : ℕ) (ik : i < k) (kn : k < n) where
    -- from an end strictly between the places to one beyond them
    leaves : ℕ → ℕ → ℕ
    leaves a b = within i k a * (outside i k b * w a b)

    -- over places
    chord_places : chord_crossings W o i k ≡ sum n (λ a. sum n (leaves a))
    unfolding chord_crossings joining inside within outside leaves w
    chord_places =
        sum_between perm (λ x. sum_over (W x) (beyond o i k)) i k ik (omega arith)
        ∙ sum_ext n (λ a. one (ltb i a) * (one (ltb a k) * sum_over (W (at o a)) (beyond o i k))) (λ a. sum n (leaves a)) (λ a h. from a)
      where
        ends : (a : ℕ) → sum_over (W (at o a)) (beyond o i k) ≡ sum n (λ b. outside i k b * w a b)
        ends a =
            sum_over_append (W (at o a)) (take i o) (drop (suc k) o)
            ∙ ap₂ (λ (x y : ℕ). x + y) (sum_before perm (W (at o a)) i (omega arith)) (sum_behind perm (W (at o a)) k kn)
            ∙ sym (sum_add n (λ b. one (ltb b i) * w a b) (λ b. one (ltb k b) * w a b))
            ∙ sum_ext n (λ b. one (ltb b i) * w a b + one (ltb k b) * w a b) (λ b. outside i k b * w a b) (λ b h. omega arith)

        from : (a : ℕ) → one (ltb i a) * (one (ltb a k) * sum_over (W (at o a)) (beyond o i k)) ≡ sum n (leaves a)
        from a = rw (ends a) (omega (arith, sum_scale n (within i k a) (λ b. outside i k b * w a b)))

    -- the edges that the chord crosses, each once
    crossed_places : pair_sum n (λ a b. w a b * cross i k a b) ≡ sum n (λ a. sum n (leaves a))
    unfolding leaves
    crossed_places =
        pair_sum_ext n (λ a b. w a b * cross i k a b) either
        (λ a b ab bn. rw (crossed i k a b ik ab, w_symmetric.swap b a bn (omega arith)) (omega arith))
        ∙ halves (pair_sum n either) (sum n (λ a. sum n (leaves a)))
        (sym (pair_sum_twice n either either_symmetric)
        ∙ sum_ext n (λ a. sum n (either a)) (λ a. sum n (leaves a) + sum n (λ b. leaves b a)) (λ a h. sum_add n (leaves a) (λ b. leaves b a))
        ∙ sum_add n (λ a. sum n (leaves a)) (λ a. sum n (λ b. leaves b a))
        ∙ ap (λ (x : ℕ). sum n (λ a. sum n (leaves a)) + x) (sum_swap n n (λ a b. leaves b a))
        ∙ double (sum n (λ a. sum n (leaves a))))
      where
        either : ℕ → ℕ → ℕ
        either a b = leaves a b + leaves b a

        either_symmetric : Symmetric n either
        either_symmetric =
            record { swap = λ a b k l. add_comm (leaves a b) (leaves b a); diagonal = λ a h. rw (w_symmetric.diagonal a h) (omega arith) }

  -- the edges that cross a chord between places i and k, over the vertices
  pub chord_crossings_lem : (i k : ℕ) → i < k → k < n → pair_sum n (λ a b. W a b * cross i k (place o a) (place o b)) ≡ chord_crossings W o i k
  unfolding w
  chord_crossings_lem i k ik kn =
      pair_vertices perm term term_symmetric
      ∙ pair_sum_ext n (λ a b. term (at o a) (at o b)) (λ a b. w a b * cross i k a b)
      (λ a b ab bn. rw (place_of_at perm a (omega arith), place_of_at perm b bn))
      ∙ crossed_places i k ik kn
      ∙ sym (chord_places i k ik kn)
    where
      term : ℕ → ℕ → ℕ
      term a b = W a b * cross i k (place o a) (place o b)

      term_symmetric : Symmetric n term
      term_symmetric =
          record {
            swap = λ a b p q. ap₂ (λ (x y : ℕ). x * y) (symmetry.swap a b p q) (cross_swap_right i k (place o a) (place o b));
            diagonal = λ a p. rw (symmetry.diagonal a p) (omega arith);
          }

  -- the edges that a chord crosses, from one place to the next: those that leave from place k to beyond place k + 1 are new, and those that end at place k + 1
  -- are crossed no more
  pub chord_next : (i k : ℕ) → i < k → suc k < n
      → chord_crossings W o i (suc k) + sum_over (W (at o (suc k))) (inside o i k)
      ≡ chord_crossings W o i k + sum_over (W (at o k)) (beyond o i (suc k))
  chord_next i k ik kn =
      omega (
        arith,
        chord_closed perm i W (suc k) kn,
        chord_opened perm i W k ik (omega arith),
        ap (sum_over (λ a. W a (at o (suc k)))) (inside_next perm i k ik (omega arith)) ∙ sum_over_last (at o k) (λ a. W a (at o (suc k))) (inside o i k),
        ap (λ (xs : List ℕ). sum_over (W (at o k)) (take i o ++ xs)) (from_place perm (suc k) kn)
            ∙ sum_over_out W (at o (suc k)) (W (at o k)) (take i o) (drop (suc (suc k)) o),
        sum_over_ext (λ a. W a (at o (suc k))) (W (at o (suc k))) (inside_below perm i k) (λ a l. symmetry.swap a (at o (suc k)) l (at_lt perm (suc k) kn)),
      )

-- ---- the edges of the model

module _ {n : ℕ} {o : List ℕ} (perm : Permutation n o) (W : ℕ → ℕ → ℕ) (symmetry : Symmetric n W) (e : Edge) (ends : Within n e) where
  -- an edge crosses what the chord between the places of its ends crosses
  pub edge_chord : place o e.low < place o e.high
      → crossings_with W o (weighted_edges n W) e ≡ edge_weight W e * chord_crossings W o (place o e.low) (place o e.high)
  edge_chord l =
      edge_crossed perm W e ends
      ∙ ap (λ (x : ℕ). edge_weight W e * x)
      (chord_crossings_lem perm symmetry (place o e.low) (place o e.high) l (place_below perm e.high ends.1))

  pub edge_chord_back : place o e.high < place o e.low
      → crossings_with W o (weighted_edges n W) e ≡ edge_weight W e * chord_crossings W o (place o e.high) (place o e.low)
  edge_chord_back l =
      edge_crossed perm W e ends
      ∙ ap (λ (x : ℕ). edge_weight W e * x)
      (pair_sum_ext n _ _ (λ c d k m. ap (λ (x : ℕ). W c d * x) (cross_swap_left (place o e.low) (place o e.high) (place o c) (place o d)))
      ∙ chord_crossings_lem perm symmetry (place o e.high) (place o e.low) l (place_below perm e.low ends.0))
