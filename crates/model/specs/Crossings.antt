-- Edges and crossings. Everywhere n is the number of vertices, o the vertices in their order round the circle, adj the adjacency words, and W the
-- weight of the edge between two vertices, 0 where there is none.
use Rattle.std.specs.Prelude.{ℕ, ◌*◌, ◌/◌, ◌%◌, ◌^◌, Bool, ◌&&◌, ◌||◌, get_or, eqb, ltb}
use Rattle.std.specs.Bool.{xor}
use mathlib.Core.List.{List, [], ◌∷◌, map, flat_map}
use Rattle.model.specs.declared.Edge.{Edge}
use Rattle.model.specs.Lists.{one, upto, keep, sum_pairs, no_repeats, place}

-- bit i of a word, 0 or 1
unfoldable pub bit : ℕ → ℕ → ℕ
bit word i = word / 2 ^ i % 2

-- "Each device has a 64-bit neighbour word: bit i is set exactly when device i is linked to it."
unfoldable pub linked : List ℕ → ℕ → ℕ → Bool
unfolding bit
linked adj u v = eqb (bit (get_or adj u 0) v) 1

-- "a link is written lower end first, and links are sorted by lower, then higher end": of the pairs that pass a test
abbrev pub edges_by : ℕ → (ℕ → ℕ → Bool) → List Edge
edges_by n to = flat_map (λ a. map (λ b. record { low = a; high = b }) (keep (λ b. ltb a b && to a b) (upto n))) (upto n)

unfoldable pub edges : ℕ → List ℕ → List Edge
edges n adj = edges_by n (linked adj)

-- place r lies strictly between places p and q of the list
unfoldable pub between : ℕ → ℕ → ℕ → Bool
between p q r = (ltb p r && ltb r q) || (ltb q r && ltb r p)

-- "the ends of one alternate with the ends of the other round the ring": of places r and s, one lies between p and q and the other does not
unfoldable pub alternate : ℕ → ℕ → ℕ → ℕ → Bool
alternate p q r s = xor (between p q r) (between p q s)

-- "Two links cross when their four ends are all different and the ends of one alternate with the ends of the other round the ring."
unfoldable pub crosses : List ℕ → Edge → Edge → Bool
crosses o e f =
    no_repeats eqb (e.low ∷ e.high ∷ f.low ∷ f.high ∷ [])
    && alternate (place o e.low) (place o e.high) (place o f.low) (place o f.high)

-- "The crossings of a ring are the unordered pairs of links that cross."
unfoldable pub crossing_pairs : ℕ → List ℕ → List ℕ → ℕ
crossing_pairs n o adj = sum_pairs (λ e f. one (crosses o e f)) (edges n adj)

-- ---- edges that weigh

-- every edge that the words hold weighs 1. With this weight the crossings below are the pairs above (`unit_crossings` in `laws`, Crossings.Units).
abbrev pub unit_weight : List ℕ → ℕ → ℕ → ℕ
unit_weight adj u v = one (linked adj u v)

-- two vertices are joined where the weight between them is not 0
unfoldable pub adjacent : (ℕ → ℕ → ℕ) → ℕ → ℕ → Bool
adjacent W a b = ltb 0 (W a b)

unfoldable pub weighted_edges : ℕ → (ℕ → ℕ → ℕ) → List Edge
weighted_edges n W = edges_by n (adjacent W)

abbrev pub edge_weight : (ℕ → ℕ → ℕ) → Edge → ℕ
edge_weight W e = W e.low e.high

-- "a crossing counts the product of its two weights"
unfoldable pub crossing_weight : (ℕ → ℕ → ℕ) → List ℕ → Edge → Edge → ℕ
crossing_weight W o e f = one (crosses o e f) * (edge_weight W e * edge_weight W f)

-- over the unordered pairs of edges
unfoldable pub crossings : ℕ → List ℕ → (ℕ → ℕ → ℕ) → ℕ
crossings n o W = sum_pairs (crossing_weight W o) (weighted_edges n W)
