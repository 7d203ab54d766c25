-- The list of all edges of a graph: each edge is in it once, the words of its edges are the graph's, and its bytes are read as it.
use Prim.Native.Nat.{ℕ, ◌*◌, ◌^◌, ◌≤◌, ◌<◌, min, max}
use Rattle.std.proofs.Common.{zero-mul, one-mul, lt_trans, le_of_lt, arith, ap₂, ◌∙◌, pow_mono, eq-eqb, ne_eqb}
use Rattle.std.proofs.Math.Nat.{lt_of_lt_of_le, min-eq_left, min-eq_right, max-eq_left, max-eq_right}
use Rattle.std.proofs.Math.Decide.{dec_lt}
use Rattle.std.specs.Prelude.{◌≡◌, refl, Bool, true, false, not, ◌&&◌, length, get_or, eqb, ltb}
use Rattle.std.proofs.Math.Path.{sym, ap}
use mathlib.Core.List.{List, [], ◌∷◌, flat_map}
use Rattle.model.specs.declared.Edge.{Edge}
use Rattle.model.specs.Lists.{one, any, no_repeats}
use Rattle.model.specs.Crossings.{bit, linked, edges, unit_weight}
use Rattle.model.specs.Charts.{edges_in, same_edge, edge_within}
use Rattle.model.specs.WrittenCharts.{edge_bytes}
use Rattle.laws.specs.Sums.Indicators.{Order, less, same, more, order, one_and, one_le, one_lt, one_ge, one_ne}
use Rattle.laws.specs.Sums.Ranges.{sum, sum_ext, sum_zero, sum_at}
use Rattle.laws.specs.Sums.Lists.{All, none, also, all_flat_map}
use Rattle.laws.specs.Sums.Pairs.{pair_sum, Symmetric}
use Rattle.laws.specs.Sums.Bits.{bit_beyond}
use Rattle.laws.specs.Crossings.Edges.{edge as rising, sum_over_edges}
use Rattle.laws.specs.Crossings.Masks.{weight_bit}
use Rattle.laws.specs.Charts.Ends.{edge, edge_within_lem, edge_outside}
use Rattle.laws.specs.Charts.Words.{adjacency_of, adjacency_ext}
use Rattle.laws.specs.Charts.Reading.{joins_member}
use Rattle.laws.specs.Charts.Sequence.{written, written_any, few_once}

-- ---- the bytes of some edges

-- what the ends have, the bytes have
pub edge_bytes_all : {P : ℕ → Type 0} {es : List Edge} → All (λ e. P e.low × P e.high) es → All P (edge_bytes es)
unfolding edge_bytes
edge_bytes_all ps = all_flat_map (λ e. e.low ∷ e.high ∷ []) ps (λ e p. also p.0 (also p.1 none))

-- edges with the lower end first are read as they were written
pub edge_bytes_read : {es : List Edge} → All (λ e. e.low ≤ e.high) es → edges_in (edge_bytes es) ≡ es
unfolding edge_bytes flat_map edges_in
edge_bytes_read none = refl
edge_bytes_read (also {x} h hs) = ap₂ (λ (e : Edge) (es : List Edge). e ∷ es) (ap₂ rising (min-eq_left h) (max-eq_right h)) (edge_bytes_read hs)

-- ---- each edge of a graph, once

-- one term of a sum, if it is there
sum_if_there : (n k : ℕ) (f : ℕ → ℕ) → sum n (λ i. one (eqb k i) * f i) ≡ one (ltb k n) * f k
sum_if_there n k f =
    elim (order k n) [
      | less l ↦ sum_at n k f l ∙ rw (one_lt k n l) (sym (one-mul (f k)))
      | same e ↦ not_there (omega arith)
      | more l ↦ not_there (omega arith)
    ]
  where
    not_there : n ≤ k → sum n (λ i. one (eqb k i) * f i) ≡ one (ltb k n) * f k
    not_there h =
        sum_zero n (λ i. one (eqb k i) * f i) (λ i l. rw (one_ne k i (λ e. omega arith)) (zero-mul (f i)))
        ∙ rw (one_ge k n h) (sym (zero-mul (f k)))

-- one term of a sum over pairs, if it is there
pub pair_sum_if_there : (n : ℕ) (e : Edge) (F : ℕ → ℕ → ℕ)
    → pair_sum n (λ a b. F a b * one (same_edge e (rising a b))) ≡ one (edge_within n e) * F e.low e.high
unfolding pair_sum same_edge edge_within
pair_sum_if_there n e F =
    sum_ext n (λ i. sum n (term i)) (λ i. one (eqb a i) * (one (ltb b n) * (one (ltb i b) * F i b))) (λ i l. inner i)
    ∙ sum_if_there n a (λ i. one (ltb b n) * (one (ltb i b) * F i b))
    ∙ rw (one_and (ltb a b) (ltb b n)) (ends (F a b))
  where
    a : ℕ
    a = e.low

    b : ℕ
    b = e.high

    term : ℕ → ℕ → ℕ
    term i j = one (ltb i j) * (F i j * one (same_edge e (rising i j)))

    inner : (i : ℕ) → sum n (term i) ≡ one (eqb a i) * (one (ltb b n) * (one (ltb i b) * F i b))
    inner i =
        sum_ext n (term i) (λ j. one (eqb b j) * (one (eqb a i) * (one (ltb i j) * F i j)))
        (λ j l. rw (one_and (eqb a i) (eqb b j)) (omega arith))
        ∙ sum_if_there n b (λ j. one (eqb a i) * (one (ltb i j) * F i j))
        ∙ omega arith

    ends : (x : ℕ) → one (ltb a n) * (one (ltb b n) * (one (ltb a b) * x)) ≡ one (ltb a b) * one (ltb b n) * x
    ends x =
        elim (dec_lt a b) [
          | yes l ↦
              elim (dec_lt b n) [
                | yes m ↦ rw (one_lt a n (lt_trans l m)) (omega arith)
                | no k ↦ rw (one_ge b n (omega arith)) (omega arith)
              ]
          | no k ↦ rw (one_ge a b (omega arith)) (omega arith)
        ]

-- how often an edge is in the list of all edges
edges_often : (n : ℕ) (adj : List ℕ) (e : Edge) → written e (edges n adj) ≡ one (edge_within n e && linked adj e.low e.high)
unfolding written
edges_often n adj e =
    sum_over_edges n adj (λ f. one (same_edge e f))
    ∙ pair_sum_if_there n e (unit_weight adj)
    ∙ sym (one_and (edge_within n e) (linked adj e.low e.high))

-- no edge twice
pub edges_once : (n : ℕ) (adj : List ℕ) → no_repeats same_edge (edges n adj) ≡ true
edges_once n adj = few_once (edges n adj) (λ e. rw (edges_often n adj e) (one_le (edge_within n e && linked adj e.low e.high)))

-- the edges in it are those that join two vertices
edges_there : (n : ℕ) (adj : List ℕ) (e : Edge) → any (same_edge e) (edges n adj) ≡ (edge_within n e && linked adj e.low e.high)
unfolding one
edges_there n adj e = written_any e (edges n adj) ∙ ap (ltb 0) (edges_often n adj e) ∙ as_test (edge_within n e && linked adj e.low e.high)
  where
    as_test : (t : Bool) → ltb 0 (one t) ≡ t
    as_test true = refl
    as_test false = refl

-- ---- the words of all edges

-- of a graph of n vertices, in words of n bits; the words behind them are 0
module _ (n : ℕ) (adj : List ℕ) (s : Symmetric n (unit_weight adj)) (bits : (u : ℕ) → u < 64 → get_or adj u 0 < 2 ^ n)
    (unused : (u : ℕ) → n ≤ u → u < 64 → get_or adj u 0 ≡ 0) where
  -- no edge joins what is no vertex
  no_vertex : (u v : ℕ) → u < 64 → n ≤ max u v → unit_weight adj u v ≡ 0
  no_vertex u v h l =
      weight_bit adj u v
      ∙ elim (dec_lt u n) [
        | yes b ↦ bit_beyond n (get_or adj u 0) v (bits u h) (omega arith)
        | no b ↦ ap (λ (w : ℕ). bit w v) (unused u (omega arith) h) ∙ bit_beyond 0 0 v (omega arith) (omega arith)
      ]

  -- what is joined has its edge in the list, either end first
  joined_there : (u v : ℕ) → u < 64 → unit_weight adj u v ≡ one (edge_within n (edge u v) && linked adj (min u v) (max u v))
  unfolding one
  joined_there u v h =
      elim (dec_lt (max u v) n) [
        | yes b ↦ rw (edge_within_lem n u v (omega arith) (omega arith)) (vertices b (order u v))
        | no b ↦ no_vertex u v h (omega arith) ∙ sym (rw (edge_outside n u v (omega arith)))
      ]
    where
      vertices : max u v < n → Order u v → unit_weight adj u v ≡ one (not (eqb u v) && linked adj (min u v) (max u v))
      vertices b (less l) = rw (ne_eqb u v (λ e. omega arith), min-eq_left (le_of_lt l), max-eq_right (le_of_lt l))
      vertices b (same e) = rw (eq-eqb u v e) (ap (unit_weight adj u) (sym e) ∙ s.diagonal u (omega arith))
      vertices b (more l) = rw (ne_eqb u v (λ e. omega arith), min-eq_right (le_of_lt l), max-eq_left (le_of_lt l)) (s.swap u v (omega arith) (omega arith))

  pub edges_words : n ≤ 64 → length adj ≡ 64 → adjacency_of (edges n adj) ≡ adj
  unfolding edge
  edges_words few long =
      sym (adjacency_ext adj (edges n adj) long (λ u h. lt_of_lt_of_le (bits u h) (pow_mono few))
      (λ u v h l. sym (weight_bit adj u v) ∙ joined_there u v h ∙ ap one (sym (joins_member u v (edges n adj) ∙ edges_there n adj (edge u v)))))
