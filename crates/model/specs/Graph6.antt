-- Graphs of the collections (document 02, Note 4): graph6, "the format described with the nauty tools", imported and exported.
use Rattle.std.specs.Prelude.{ℕ, suc, ◌+◌, ◌*◌, ◌-◌, ◌/◌, ◌%◌, ◌^◌, Bool, cond, ◌&&◌, length, get_or, take, drop, replicate, eqb, leb}
use mathlib.Core.List.{List, [], ◌∷◌, ◌++◌, map, flat_map}
use Rattle.model.specs.declared.Edge.{Edge}
use Rattle.model.specs.declared.Layout.{Layout}
use Rattle.model.specs.Answers.{LayoutRead}
use Rattle.model.specs.Lists.{one, upto, every, any, first_with, sum_over}
use Rattle.model.specs.Crossings.{bit, linked, crossings}
use Rattle.model.specs.Layouts.{weight, capacity}
use Rattle.model.specs.Checks.{Check}
use Rattle.model.specs.Charts.{same_list, padded, layout_with, read_as, Answer, answer}
use Rattle.model.specs.Writing.{Format}
use Rattle.model.specs.WrittenCharts.{unit_weighted}

-- ---- six bits a byte

-- "six to a byte from the high bit, plus 63": the byte of the first six bits; those that are not there are 0
unfoldable pub byte_of : List ℕ → ℕ
byte_of bits = 63 + sum_over (λ j. get_or bits j 0 * 2 ^ (5 - j)) (upto 6)

-- how many bytes k bits take
unfoldable pub bytes_for : ℕ → ℕ
bytes_for k = (k + 5) / 6

-- "the last byte padded with zeros"
unfoldable pub packed : List ℕ → List ℕ
packed bits = map (λ i. byte_of (drop (6 * i) bits)) (upto (bytes_for (length bits)))

-- the bits of a byte, and of some bytes
unfoldable pub bits_of : ℕ → List ℕ
bits_of byte = map (λ j. bit (byte - 63) (5 - j)) (upto 6)

unfoldable pub unpacked : List ℕ → List ℕ
unpacked bytes = flat_map bits_of bytes

-- "63 to 126": does the byte hold six bits?
unfoldable pub holds_six : ℕ → Bool
holds_six byte = leb 63 byte && leb byte 126

-- ---- the parts of a graph

-- "For n up to 62 the size is one byte, n + 63; for 63 and 64 it is the byte 126 and three bytes of six bits each, plus 63."
unfoldable pub size_part : ℕ → List ℕ
size_part n = cond (leb n 62) ((n + 63) ∷ []) (126 ∷ (n / 4096 + 63) ∷ (n / 64 % 64 + 63) ∷ (n % 64 + 63) ∷ [])

-- "Then come the pairs 0-1, 0-2, 1-2, 0-3 and so on by rising higher end"
unfoldable pub pairs_by_higher : ℕ → List Edge
pairs_by_higher n = flat_map (λ b. map (λ a. record { low = a; high = b }) (upto b)) (upto n)

-- "a bit each"
unfoldable pub pair_bits : ℕ → List ℕ → List ℕ
pair_bits n adj = map (λ e. one (linked adj e.low e.high)) (pairs_by_higher n)

-- the pairs whose bit is 1
unfoldable pub chosen : List ℕ → List Edge → List Edge
chosen [] es = []
chosen (b ∷ bs) [] = []
chosen (b ∷ bs) (e ∷ es) = cond (eqb b 1) (e ∷ chosen bs es) (chosen bs es)

-- ---- export: "drops the order"; Writing has the call

unfoldable pub graph6_of : Layout → List ℕ
graph6_of l = size_part l.n ++ packed (pair_bits l.n l.adjacency)

-- "26 when graph6 export meets a weight other than 1, after 11 and before 19" (Note 8)
unfoldable pub export_checks : Layout → List Check
export_checks l = record { passes = unit_weighted l; code = 26 } ∷ []

-- "Export to a short buffer gives 19."
abbrev pub graph6_format : Format
graph6_format = record { entries = graph6_of; checks = export_checks; short = 19 }

-- ---- import

-- do the bytes start with the size part of n?
unfoldable pub starts_with_size : List ℕ → ℕ → Bool
starts_with_size s n = same_list (take (length (size_part n)) s) (size_part n)

-- n, and the bytes behind the size part
unfoldable pub graph6_size : List ℕ → ℕ
graph6_size s = first_with (starts_with_size s) 0 (upto (suc capacity))

unfoldable pub graph6_data : List ℕ → List ℕ
graph6_data s = drop (length (size_part (graph6_size s))) s

-- "20 when the size part is cut short, not in these forms or over 64"
unfoldable pub graph6_size_checks : List ℕ → List Check
graph6_size_checks s = record { passes = any (starts_with_size s) (upto (suc capacity)); code = 20 } ∷ []

-- "21, asked next, when the remaining length or a byte outside 63 to 126 is wrong"
unfoldable pub data_checks : ℕ → List ℕ → List Check
data_checks n bytes = record { passes = eqb (length bytes) (bytes_for (length (pairs_by_higher n))) && every holds_six bytes; code = 21 } ∷ []

-- "22, last, when a padding bit is set"
unfoldable pub padding_checks : ℕ → List ℕ → List Check
padding_checks n bytes = record { passes = every (eqb 0) (drop (length (pairs_by_higher n)) (unpacked bytes)); code = 22 } ∷ []

unfoldable pub graph6_checks : List ℕ → List Check
graph6_checks s =
    graph6_size_checks s ++ data_checks (graph6_size s) (graph6_data s) ++ padding_checks (graph6_size s) (graph6_data s)

-- the edges of n vertices
unfoldable pub graph6_edges : ℕ → List ℕ → List Edge
graph6_edges n bytes = chosen (unpacked bytes) (pairs_by_higher n)

-- "gives the order 0, 1, 2 and so on and the true count"; "graph6 import gives [the weight] 1" (Note 8)
unfoldable pub graph6_layout : List ℕ → Layout
graph6_layout s =
    let es = graph6_edges (graph6_size s) (graph6_data s) in
    layout_with (graph6_size s) es (replicate (length es) 1) (upto (graph6_size s))

-- "A refused import returns the empty ring."
unfoldable pub import_of : List ℕ → LayoutRead
import_of s = read_as (graph6_checks s) (graph6_layout s)

-- "Export then import keeps n and every link": the layout in the order 0, 1, 2 and so on, with its true crossings there
unfoldable pub in_rising_order : Layout → Layout
in_rising_order l =
    record {
      n = l.n;
      order = padded (upto l.n);
      adjacency = l.adjacency;
      weights = l.weights;
      count = crossings l.n (upto l.n) (weight l);
    }

-- ---- the passes of the reader, as Charts has them: 20 finds the number of vertices

unfoldable pub graph6_size_answer : List ℕ → Answer
graph6_size_answer s = answer (graph6_size_checks s) (graph6_size s ∷ [])
