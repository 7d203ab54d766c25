-- The circular layout (document 01: the ring), validity (whole), and the carried count.
use Rattle.std.specs.Prelude.{ℕ, ◌+◌, ◌*◌, ◌-◌, ◌%◌, ◌^◌, Bool, not, cond, ◌&&◌, List, ◌++◌, get_or, take, drop, replicate, eqb, leb, ltb}
use Rattle.std.specs.Bool.{beq}
use Rattle.model.specs.declared.Layout.{Layout}
use Rattle.model.specs.Lists.{upto, every, keep, occurrences}
use Rattle.model.specs.Crossings.{linked, crossings}

-- how many places order and adjacency have, and a table of weights
abbrev pub capacity : ℕ
capacity = 64

abbrev pub table_places : ℕ
table_places = 4096

-- "The empty ring carries 0"
unfoldable pub empty_layout : Layout
empty_layout =
    record { n = 0; order = replicate capacity 0; adjacency = replicate capacity 0; weights = replicate table_places 0; count = 0 }

-- "The order is a list of all devices, read clockwise": the first n places
unfoldable pub vertex_order : Layout → List ℕ
vertex_order l = take l.n l.order

-- a layout of n vertices in this order, with these edges and their weights, without its count
abbrev pub uncounted : ℕ → List ℕ → List ℕ → List ℕ → Layout
uncounted n order adj ws = record { n = n; order = order; adjacency = adj; weights = ws; count = 0 }

-- "Each link gets a weight from 1 to 255" (document 02, Note 8): of the bytes, each but 0
unfoldable pub is_weight : ℕ → Bool
is_weight w = leb 1 w && leb w 255

-- a table of weights holds a row for each vertex: the weight of u towards v, 0 where there is no edge
unfoldable pub table_weight : List ℕ → ℕ → ℕ → ℕ
table_weight ws u v = get_or ws (capacity * u + v) 0

-- that of a layout; besides it only validity, an edge that is set (both_ways) and the table of what is read know where a layout holds its weights
unfoldable pub weight : Layout → ℕ → ℕ → ℕ
weight l = table_weight l.weights

-- the crossings of a layout, whatever count it carries
unfoldable pub crossings_of : Layout → ℕ
crossings_of l = crossings l.n (vertex_order l) (weight l)

-- ---- validity

-- "the order holds each device once"
unfoldable pub each_once : ℕ → List ℕ → Bool
each_once n o = every (λ v. eqb (occurrences v o) 1) (upto n)

-- the entries at places n and above are 0
unfoldable pub zero_from : ℕ → List ℕ → Bool
zero_from n xs = every (λ i. eqb (get_or xs i 0) 0) (keep (λ i. leb n i) (upto capacity))

-- "neighbour words are symmetric"
unfoldable pub symmetric : ℕ → List ℕ → Bool
symmetric n adj = every (λ u. every (λ v. beq (linked adj u v) (linked adj v u)) (upto n)) (upto n)

-- "no device neighbours itself"
unfoldable pub loopless : ℕ → List ℕ → Bool
loopless n adj = every (λ v. not (linked adj v v)) (upto n)

-- "no word has a bit at or above n"
unfoldable pub bits_below : ℕ → List ℕ → Bool
bits_below n adj = every (λ v. ltb (get_or adj v 0) (2 ^ n)) (upto capacity)

-- the row of u in a table of weights
unfoldable pub row_of : List ℕ → ℕ → List ℕ
row_of ws u = take capacity (drop (capacity * u) ws)

-- "equal weights both ways round"
unfoldable pub even_weights : ℕ → List ℕ → Bool
even_weights n ws = every (λ u. every (λ v. eqb (get_or (row_of ws u) v 0) (get_or (row_of ws v) u 0)) (upto n)) (upto n)

-- "and 0 exactly where no link is"
unfoldable pub weighs_edges : ℕ → List ℕ → List ℕ → Bool
weighs_edges n adj ws =
    every (λ u. every (λ v. let w = get_or (row_of ws u) v 0 in cond (linked adj u v) (is_weight w) (eqb w 0)) (upto n)) (upto n)

-- no link is at a device that is not there: towards those at or above n, and in their rows, every weight is 0
unfoldable pub blank_from : ℕ → List ℕ → Bool
blank_from n ws =
    every (λ u. every (eqb 0) (drop n (row_of ws u))) (upto n)
    && every (eqb 0) (take (capacity * (capacity - n)) (drop (capacity * n) ws))

-- "A whole ring has equal weights both ways round, and 0 exactly where no link is."
unfoldable pub weights_fit : ℕ → List ℕ → List ℕ → Bool
weights_fit n adj ws = even_weights n ws && weighs_edges n adj ws && blank_from n ws

-- "A ring is whole when n is at most 64, the order holds each device once, its unused places are 0, neighbour words are symmetric,
-- no device neighbours itself, no word has a bit at or above n, and the words of devices at or above n are 0." And its weights fit its links.
unfoldable pub valid : Layout → Bool
valid l =
    leb l.n capacity
    && each_once l.n (vertex_order l)
    && zero_from l.n l.order
    && symmetric l.n l.adjacency
    && loopless l.n l.adjacency
    && bits_below l.n l.adjacency
    && zero_from l.n l.adjacency
    && weights_fit l.n l.adjacency l.weights

-- ---- the carried count

-- "The count [becomes] 64-bit"
abbrev pub modulus : ℕ
modulus = 2 ^ 64

-- "each accepted call that changes a ring changes it by crossings after less crossings before", "modulo 2^64"
unfoldable pub carried : ℕ → ℕ → ℕ → ℕ
carried count before after = (count + after + (modulus - before % modulus)) % modulus

-- what an accepted call makes of l: other vertices, another order, other edges or weights, and the count that goes with them
unfoldable pub changed : Layout → ℕ → List ℕ → List ℕ → List ℕ → Layout
changed l n order adj ws =
    record {
      n = n;
      order = order;
      adjacency = adj;
      weights = ws;
      count = carried l.count (crossings_of l) (crossings_of (uncounted n order adj ws));
    }

-- the same with o in the first n places of the order, the unused places and the edges kept
unfoldable pub reordered : Layout → List ℕ → Layout
reordered l o = changed l l.n (o ++ drop l.n l.order) l.adjacency l.weights
