-- Graphs in graph6 worked by hand: the example of the format's description (five vertices, edges 0-2, 0-4, 1-3 and 3-4), small graphs, the sizes at
-- which the forms change, and each refusal.
use Rattle.std.specs.Prelude.{ℕ, ◌-◌, Bool, ◌&&◌, replicate, T, eqb}
use Rattle.std.proofs.Math.Bool.{xor}
use mathlib.Core.List.{List, [], ◌∷◌, ◌++◌, flat_map}
use Rattle.model.specs.Lists.{one, upto, every, any, keep, first_with, sum_over, sum_pairs, no_repeats, place}
use Rattle.model.specs.Crossings.{bit, linked, edges, between, alternate, crosses, adjacent, weighted_edges, crossing_weight, crossings}
use Rattle.model.specs.Layouts.{table_weight, weight}
use Rattle.model.specs.Checks.{refusal}
use Rattle.model.specs.Charts.{same_list, same_edge, joins, word_in, with_weights, table_in}
use Rattle.model.specs.Edits.{both_ways}
use Rattle.model.specs.WrittenCharts.{edge_bytes}
use Rattle.model.specs.Graph6.{byte_of, bytes_for, packed, bits_of, unpacked, holds_six, size_part, pairs_by_higher, pair_bits, chosen, graph6_of}
use Rattle.model.specs.Graph6.{starts_with_size, graph6_size, graph6_data, graph6_size_checks, data_checks, padding_checks, graph6_checks, graph6_edges}
use Rattle.model.specs.Graph6.{graph6_layout}

-- is a graph accepted with n vertices, these edges, two bytes each, and as many crossings, and exported as it was imported?
unfoldable pub imports_as : List ℕ → ℕ → List ℕ → ℕ → Bool
imports_as s n ends count =
    let l = graph6_layout s in
    eqb (refusal (graph6_checks s)) 0
    && eqb l.n n
    && same_list (edge_bytes (graph6_edges n (graph6_data s))) ends
    && same_list l.order (upto n ++ replicate (64 - n) 0)
    && eqb l.count count
    && same_list (graph6_of l) s

-- by computation
pub worked_imports : T (imports_as (63 ∷ []) 0 [] 0
    && imports_as (64 ∷ []) 1 [] 0
    && imports_as (65 ∷ 63 ∷ []) 2 [] 0
    && imports_as (65 ∷ 95 ∷ []) 2 (0 ∷ 1 ∷ []) 0
    && imports_as (67 ∷ 81 ∷ []) 4 (0 ∷ 2 ∷ 1 ∷ 3 ∷ []) 1
    && imports_as (68 ∷ 81 ∷ 99 ∷ []) 5 (0 ∷ 2 ∷ 1 ∷ 3 ∷ 0 ∷ 4 ∷ 3 ∷ 4 ∷ []) 1)
unfolding table_weight with_weights table_in both_ways imports_as byte_of bytes_for packed bits_of unpacked holds_six size_part pairs_by_higher pair_bits chosen
    graph6_of starts_with_size graph6_size graph6_data graph6_size_checks data_checks padding_checks graph6_checks graph6_edges graph6_layout edge_bytes word_in
    joins same_edge same_list weight adjacent weighted_edges crossing_weight crossings crosses edges linked bit between alternate upto every any keep
    first_with one sum_over sum_pairs no_repeats place refusal flat_map xor
worked_imports = tt

-- are these bytes refused with this number, or accepted with 0?
unfoldable pub answers : ℕ → List ℕ → Bool
answers code s = eqb (refusal (graph6_checks s)) code

-- by computation
pub worked_answers : T (
    -- no byte, a first byte that is none, the long form cut short, of 62 vertices, with a byte that is none, of 65, the byte 126 twice, and a header
    every (answers 20)
    ([]
    ∷ (62 ∷ [])
    ∷ (127 ∷ [])
    ∷ (126 ∷ 63 ∷ 63 ∷ [])
    ∷ (126 ∷ 63 ∷ 63 ∷ 125 ∷ replicate 316 63)
    ∷ (126 ∷ 63 ∷ 62 ∷ 63 ∷ [])
    ∷ (126 ∷ 63 ∷ 63 ∷ 127 ∷ replicate 336 63)
    ∷ (126 ∷ 63 ∷ 64 ∷ 64 ∷ replicate 347 63)
    ∷ (126 ∷ 126 ∷ 63 ∷ 63 ∷ 63 ∷ 63 ∷ 63 ∷ 64 ∷ [])
    ∷ (62 ∷ 62 ∷ 103 ∷ 114 ∷ 97 ∷ 112 ∷ 104 ∷ 54 ∷ 60 ∷ 60 ∷ 63 ∷ [])
    ∷ [])
    -- a byte too few, one too many, a line end, bytes just outside, and 21 before 22
    && every (answers 21)
    ((65 ∷ [])
    ∷ (65 ∷ 63 ∷ 63 ∷ [])
    ∷ (63 ∷ 10 ∷ [])
    ∷ (65 ∷ 63 ∷ 10 ∷ [])
    ∷ (65 ∷ 62 ∷ [])
    ∷ (65 ∷ 127 ∷ [])
    ∷ (65 ∷ 64 ∷ 63 ∷ [])
    ∷ (68 ∷ 62 ∷ 64 ∷ [])
    ∷ (125 ∷ replicate 315 63)
    ∷ (126 ∷ 63 ∷ 63 ∷ 126 ∷ replicate 327 63)
    ∷ (126 ∷ 63 ∷ 64 ∷ 63 ∷ replicate 335 63)
    ∷ [])
    -- each padding bit of two vertices, and the lowest and the highest of 63
    && every (answers 22)
    ((65 ∷ 64 ∷ [])
    ∷ (65 ∷ 65 ∷ [])
    ∷ (65 ∷ 67 ∷ [])
    ∷ (65 ∷ 71 ∷ [])
    ∷ (65 ∷ 79 ∷ [])
    ∷ (126 ∷ 63 ∷ 63 ∷ 126 ∷ (replicate 325 126 ++ (64 ∷ [])))
    ∷ (126 ∷ 63 ∷ 63 ∷ 126 ∷ (replicate 325 126 ++ (67 ∷ [])))
    ∷ [])
    -- where the forms change: 62 vertices without edges, all edges of 63, with three bits of padding, and of 64, with none
    && every (answers 0)
    ((125 ∷ replicate 316 63)
    ∷ (126 ∷ 63 ∷ 63 ∷ 126 ∷ (replicate 325 126 ++ (119 ∷ [])))
    ∷ (126 ∷ 63 ∷ 64 ∷ 63 ∷ replicate 336 126)
    ∷ []))
unfolding answers bytes_for bits_of unpacked holds_six size_part pairs_by_higher starts_with_size graph6_size graph6_data graph6_size_checks data_checks
    padding_checks graph6_checks same_list bit upto every any first_with refusal flat_map
worked_answers = tt
