-- Tables of the crossings of every edge, worked by hand: rings of document 01 and others, and tables of several lengths.
use Rattle.std.specs.Prelude.{ℕ, Bool, ◌&&◌, replicate, T, eqb}
use Rattle.std.proofs.Math.Bool.{xor}
use mathlib.Core.List.{List, [], ◌∷◌, flat_map}
use Rattle.model.specs.declared.Layout.{Layout}
use Rattle.model.specs.Lists.{one, upto, every, any, keep, sum_over, sum_pairs, no_repeats, occurrences, place}
use Rattle.model.specs.Crossings.{bit, linked, edges, between, alternate, crosses, adjacent, weighted_edges, crossing_weight, crossings}
use Rattle.model.specs.Layouts.{row_of, is_weight, even_weights, weighs_edges, blank_from, weights_fit, table_weight}
use Rattle.model.specs.Layouts.{vertex_order, weight, each_once, zero_from, symmetric, loopless, bits_below, valid}
use Rattle.model.specs.Checks.{refusal, by_refusal, checked, is_valid, room_for}
use Rattle.model.specs.Charts.{same_list, same_edge, joins, word_in, with_weights, table_in}
use Rattle.model.specs.Edits.{both_ways}
use Rattle.model.specs.EdgeCrossings.{crossings_with, edge_crossings, edge_crossings_of, crossing_table}
use Rattle.model.specs.Starred.{Ring, ◌to◌, complete, first, weighted_layout_of, layout_of}

-- does the call on a table of size entries, each of them 7, answer this code and this number of edges, and leave these entries?
unfoldable pub counts : Layout → ℕ → ℕ → ℕ → List ℕ → Bool
counts l size code number table =
    let answer = edge_crossings_of l (replicate size 7) in
    eqb answer.refusal code && eqb answer.edges number && same_list (crossing_table l (replicate size 7)) table

-- by computation
pub worked_tables : let l = layout_of first in
    let invalid : Layout = record { n = 2; order = l.adjacency; adjacency = l.adjacency; weights = l.weights; count = 0 } in
    let turned : Ring = record { vertices = 4; links = complete 4; order = 2 ∷ 0 ∷ 1 ∷ 3 ∷ [] } in
    let fan : Ring = record { vertices = 5; links = 0 to 2 ∷ 0 to 3 ∷ 1 to 4 ∷ []; order = 0 ∷ 1 ∷ 2 ∷ 3 ∷ 4 ∷ [] } in
    T (counts l 2 0 2 (1 ∷ 1 ∷ [])
    && counts l 4 0 2 (1 ∷ 1 ∷ 7 ∷ 7 ∷ [])
    && counts l 1 23 0 (7 ∷ [])
    && counts l 0 23 0 []
    && counts invalid 0 11 0 []
    && counts invalid 1 11 0 (7 ∷ [])
    && counts (layout_of (record { vertices = 4; links = 0 to 2 ∷ 1 to 3 ∷ []; order = 0 ∷ 2 ∷ 1 ∷ 3 ∷ [] })) 2 0 2 (0 ∷ 0 ∷ [])
    && counts (layout_of (record { vertices = 3; links = []; order = 0 ∷ 1 ∷ 2 ∷ [] })) 0 0 0 []
    && counts (layout_of (record { vertices = 0; links = []; order = [] })) 1 0 0 (7 ∷ [])
    && counts (layout_of turned) 6 0 6 (0 ∷ 0 ∷ 1 ∷ 1 ∷ 0 ∷ 0 ∷ [])
    && counts (layout_of fan) 3 0 3 (1 ∷ 1 ∷ 2 ∷ [])
    && counts (weighted_layout_of fan (3 ∷ 5 ∷ 7 ∷ [])) 4 0 3 (21 ∷ 35 ∷ 56 ∷ 7 ∷ [])
    && counts (layout_of (record { vertices = 5; links = complete 5; order = 0 ∷ 1 ∷ 2 ∷ 3 ∷ 4 ∷ [] })) 11 0 10
    (0 ∷ 2 ∷ 2 ∷ 0 ∷ 0 ∷ 2 ∷ 2 ∷ 0 ∷ 2 ∷ 0 ∷ 7 ∷ []))
unfolding row_of is_weight even_weights weighs_edges blank_from weights_fit table_weight with_weights table_in both_ways weighted_layout_of counts edge_crossings_of
    crossing_table edge_crossings crossings_with layout_of first complete ◌to◌ same_list same_edge joins word_in refusal by_refusal checked is_valid room_for
    valid each_once zero_from symmetric loopless bits_below vertex_order weight adjacent weighted_edges crossing_weight crossings crosses edges linked bit
    between alternate upto every any keep one sum_over sum_pairs no_repeats occurrences place flat_map xor
worked_tables = tt
