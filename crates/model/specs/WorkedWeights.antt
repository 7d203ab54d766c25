-- Charts with weights worked by hand (document 02, Note 8): the chart of document 01, "The program `ringlist`", with field 57 behind it.
use Rattle.std.specs.Prelude.{ℕ, Bool, ◌&&◌, T, eqb}
use Rattle.std.proofs.Math.Bool.{xor}
use mathlib.Core.List.{List, [], ◌∷◌, ◌++◌, flat_map}
use Rattle.model.specs.Lists.{one, upto, every, any, keep, sum_over, sum_pairs, no_repeats, occurrences, place}
use Rattle.model.specs.Crossings.{bit, linked, edges, between, alternate, crosses, adjacent, weighted_edges, crossing_weight, crossings}
use Rattle.model.specs.Layouts.{vertex_order, table_weight, weight, is_weight, each_once}
use Rattle.model.specs.Checks.{refusal}
use Rattle.model.specs.Charts.{fields_in, fields_of, body_of, body_length, starts_with_field, first_field, chart_size, edges_in, chart_edges, chart_order}
use Rattle.model.specs.Charts.{same_list, same_edge, edge_within, joins, word_in, has_weights, chart_weights, with_weights, table_in, chart_layout}
use Rattle.model.specs.Charts.{chart_checks, size_checks, end_checks, repeat_checks, place_checks, weight_checks}
use Rattle.model.specs.Edits.{both_ways}
use Rattle.model.specs.WrittenCharts.{field_bytes, edge_bytes, weights_of, unit_weighted, weight_field, chart_of}

-- four devices, with these links, order and further fields
unfoldable pub chart_behind : List ℕ → List ℕ → List ℕ → List ℕ
chart_behind links o behind = field_bytes 0x44 (4 ∷ []) ++ field_bytes 0x4C links ++ field_bytes 0x52 o ++ behind

-- the links 0-2 and 1-3 in the order 0, 1, 2, 3, and these weights
abbrev crossed : List ℕ
crossed = 0 ∷ 2 ∷ 1 ∷ 3 ∷ []

abbrev rising : List ℕ
rising = 0 ∷ 1 ∷ 2 ∷ 3 ∷ []

abbrev weighing : List ℕ → List ℕ
weighing ws = chart_behind crossed rising (field_bytes 0x57 ws)

-- is the chart refused with this code, or accepted with 0?
unfoldable pub answers : List ℕ → ℕ → Bool
answers chart code = eqb (refusal (chart_checks chart)) code

-- does a chart with these links and last field write those?
unfoldable pub writes : List ℕ → List ℕ → List ℕ → List ℕ → Bool
writes links last other written = same_list (chart_of (chart_layout (chart_behind links rising last))) (chart_behind other rising written)

-- by computation: what is accepted, and each refusal before those behind it
pub worked_refusals : let two = field_bytes 0x57 (3 ∷ 5 ∷ []) in let turned : List ℕ = 0 ∷ 1 ∷ 2 ∷ 2 ∷ [] in
    T (answers (weighing (3 ∷ 5 ∷ [])) 0
    && answers (weighing (1 ∷ 255 ∷ [])) 0
    && answers (chart_behind [] rising (field_bytes 0x57 [])) 0
    && answers (chart_behind crossed rising (two ++ two)) 3
    && answers (chart_behind crossed rising (field_bytes 0x52 rising)) 3
    && answers (field_bytes 0x44 (4 ∷ []) ++ field_bytes 0x4C crossed ++ two ++ field_bytes 0x52 rising) 3
    && answers (chart_behind crossed turned (field_bytes 0x57 (3 ∷ []))) 8
    && answers (weighing (3 ∷ [])) 24
    && answers (weighing (3 ∷ 5 ∷ 0 ∷ [])) 24
    && answers (chart_behind [] rising (field_bytes 0x57 (1 ∷ []))) 24
    && answers (weighing (3 ∷ 0 ∷ [])) 25)
unfolding chart_behind field_bytes answers chart_checks size_checks end_checks repeat_checks place_checks weight_checks refusal chart_size chart_edges chart_order
    has_weights chart_weights body_of fields_of fields_in starts_with_field body_length first_field edges_in edge_within same_edge same_list is_weight each_once
    no_repeats occurrences upto every any sum_over one
worked_refusals = tt

-- the weights stand in the table, both ways round, and the crossing counts their product
pub worked_weights : let l = chart_layout (weighing (3 ∷ 5 ∷ [])) in
    T (eqb (weight l 0 2) 3 && eqb (weight l 2 0) 3 && eqb (weight l 1 3) 5 && eqb (weight l 3 1) 5 && eqb (weight l 0 1) 0 && eqb l.count 15)
unfolding chart_behind field_bytes chart_layout chart_size chart_edges chart_order has_weights chart_weights body_of fields_of fields_in starts_with_field body_length
    first_field edges_in with_weights table_in both_ways table_weight weight adjacent weighted_edges crossing_weight crossings crosses between alternate upto
    every any keep one sum_over sum_pairs no_repeats place flat_map xor
worked_weights = tt

-- ones are not written; other weights are, in the sequence of the links as they are written
pub worked_writing : let weighed = field_bytes 0x57 (3 ∷ 5 ∷ []) in
    T (writes crossed weighed crossed weighed
    && writes (3 ∷ 1 ∷ 2 ∷ 0 ∷ []) (field_bytes 0x57 (5 ∷ 3 ∷ [])) crossed weighed
    && writes crossed (field_bytes 0x57 (1 ∷ 1 ∷ [])) crossed []
    && writes [] (field_bytes 0x57 []) [] [])
unfolding chart_behind field_bytes writes chart_of edge_bytes weights_of unit_weighted weight_field chart_layout chart_size chart_edges chart_order has_weights
    chart_weights body_of fields_of fields_in starts_with_field body_length first_field edges_in with_weights table_in both_ways table_weight weight word_in joins
    same_edge same_list edges linked bit vertex_order upto every any keep one sum_over flat_map
worked_writing = tt
