-- Small lists of orders, and the two calls on small rings, worked by hand.
use Rattle.std.specs.Prelude.{ℕ, ◌≡◌, refl, Bool, ◌&&◌, replicate, T, eqb}
use Rattle.std.proofs.Math.Bool.{xor}
use mathlib.Core.List.{List, [], ◌∷◌, flat_map}
use Rattle.model.specs.declared.Layout.{Layout}
use Rattle.model.specs.Lists.{one, upto, every, any, keep, first_with, sum_over, sum_pairs, no_repeats, member, occurrences, place}
use Rattle.model.specs.Crossings.{bit, linked, edges, between, alternate, crosses, adjacent, weighted_edges, crossing_weight, crossings}
use Rattle.model.specs.Layouts.{row_of, is_weight, even_weights, weighs_edges, blank_from, weights_fit, table_weight}
use Rattle.model.specs.Layouts.{vertex_order, weight, each_once, zero_from, symmetric, loopless, bits_below, valid}
use Rattle.model.specs.Checks.{refusal, by_refusal, checked, is_valid, buffer_fits}
use Rattle.model.specs.Edits.{both_ways}
use Rattle.model.specs.GreedyAppend.{unplaced}
use Rattle.model.specs.Search.{least}
use Rattle.model.specs.Charts.{same_list, same_edge, joins, word_in, with_weights, table_in}
use Rattle.model.specs.SmallOrders.{list_rest, all_orders, factorial, number_of_orders, order_at, least_of_all, first_least, is_small, is_listed}
use Rattle.model.specs.SmallOrders.{order_at_checks, order_at_refusal, order_at_bytes, least_checks, least_of, least_bytes}
use Rattle.model.specs.Starred.{Ring, ◌to◌, complete, first, weighted_layout_of, layout_of}

-- of no vertices the one empty order, and all six of four
pub orders_listed : (all_orders 0 ≡ [] ∷ [])
    × (all_orders 4
    ≡ (0 ∷ 1 ∷ 2 ∷ 3 ∷ []) ∷ (0 ∷ 1 ∷ 3 ∷ 2 ∷ []) ∷ (0 ∷ 2 ∷ 1 ∷ 3 ∷ []) ∷ (0 ∷ 2 ∷ 3 ∷ 1 ∷ []) ∷ (0 ∷ 3 ∷ 1 ∷ 2 ∷ []) ∷ (0 ∷ 3 ∷ 2 ∷ 1 ∷ []) ∷ [])
unfolding all_orders list_rest unplaced upto keep member any flat_map
orders_listed = (refl, refl)

-- does the call with this index, on a buffer of size bytes, each of them 7, answer this code and leave these bytes?
unfoldable pub writes : Layout → ℕ → ℕ → ℕ → List ℕ → Bool
writes l index size code bytes =
    let buffer : List ℕ = replicate size 7 in eqb (order_at_refusal l index buffer) code && same_list (order_at_bytes l index buffer) bytes

-- the same of the call that answers the least crossings
unfoldable pub finds : Layout → ℕ → ℕ → ℕ → List ℕ → Bool
finds l size code number bytes =
    let buffer : List ℕ = replicate size 7 in
    let answer = least_of l buffer in
    eqb answer.refusal code && eqb answer.crossings number && same_list (least_bytes l buffer) bytes

-- by computation
pub worked_orders : let l = layout_of first in
    let invalid : Layout = record { n = 9; order = l.order; adjacency = l.adjacency; weights = l.weights; count = 0 } in
    let none = layout_of (record { vertices = 0; links = []; order = [] }) in
    let nine = layout_of (record { vertices = 9; links = []; order = upto 9 }) in
    let square : Ring = record { vertices = 4; links = complete 4; order = 2 ∷ 1 ∷ 0 ∷ 3 ∷ [] } in
    let pairs : Ring = record { vertices = 4; links = 0 to 1 ∷ 0 to 3 ∷ 1 to 2 ∷ 2 to 3 ∷ []; order = 0 ∷ 2 ∷ 1 ∷ 3 ∷ [] } in
    let weights : List ℕ = 1 ∷ 5 ∷ 2 ∷ 3 ∷ 7 ∷ 1 ∷ [] in
    T (writes l 0 4 0 (0 ∷ 1 ∷ 2 ∷ 3 ∷ [])
    && writes l 3 6 0 (0 ∷ 2 ∷ 3 ∷ 1 ∷ 7 ∷ 7 ∷ [])
    && writes l 5 4 0 (0 ∷ 3 ∷ 2 ∷ 1 ∷ [])
    && writes l 6 4 28 (7 ∷ 7 ∷ 7 ∷ 7 ∷ [])
    && writes l 5 3 18 (7 ∷ 7 ∷ 7 ∷ [])
    && writes l 6 3 28 (7 ∷ 7 ∷ 7 ∷ [])
    && writes invalid 0 9 11 (replicate 9 7)
    && writes nine 40320 9 27 (replicate 9 7)
    && writes none 0 1 0 (7 ∷ [])
    && writes none 1 0 28 []
    && finds l 5 0 0 (0 ∷ 1 ∷ 3 ∷ 2 ∷ 7 ∷ [])
    && finds l 3 18 0 (7 ∷ 7 ∷ 7 ∷ [])
    && finds invalid 8 11 0 (replicate 8 7)
    && finds none 0 0 0 []
    && finds (layout_of square) 4 0 1 (0 ∷ 1 ∷ 2 ∷ 3 ∷ [])
    && finds (layout_of pairs) 4 0 0 (0 ∷ 1 ∷ 2 ∷ 3 ∷ [])
    && finds (weighted_layout_of square weights) 4 0 1 (0 ∷ 2 ∷ 1 ∷ 3 ∷ []))
unfolding row_of is_weight even_weights weighs_edges blank_from weights_fit table_weight with_weights table_in both_ways weighted_layout_of layout_of first complete
    ◌to◌ same_list same_edge joins word_in refusal by_refusal checked is_valid buffer_fits is_small is_listed order_at_checks order_at_refusal order_at_bytes least_checks
    least_of least_bytes writes finds list_rest all_orders factorial number_of_orders order_at least_of_all first_least least unplaced member first_with valid
    each_once zero_from symmetric loopless bits_below vertex_order weight adjacent weighted_edges crossing_weight crossings crosses edges linked bit between alternate
    upto every any keep one sum_over sum_pairs no_repeats occurrences place flat_map xor
worked_orders = tt
