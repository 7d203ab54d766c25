-- Written charts worked by hand: the chart of document 01, "The program `ringlist`", and the same with other links.
use Rattle.std.specs.Prelude.{ℕ, ◌-◌, Bool, ◌&&◌, length, replicate, T, eqb}
use Rattle.std.proofs.Math.Bool.{xor}
use mathlib.Core.List.{List, [], ◌∷◌, ◌++◌, flat_map}
use Rattle.model.specs.declared.Layout.{Layout}
use Rattle.model.specs.Lists.{one, upto, every, any, keep, sum_over, sum_pairs, no_repeats, occurrences, place}
use Rattle.model.specs.Crossings.{bit, linked, edges, between, alternate, crosses, adjacent, weighted_edges, crossing_weight, crossings}
use Rattle.model.specs.Layouts.{vertex_order, weight, each_once, zero_from, symmetric, loopless, bits_below, valid}
use Rattle.model.specs.Layouts.{row_of, is_weight, even_weights, weighs_edges, blank_from, weights_fit, table_weight}
use Rattle.model.specs.Checks.{refusal, by_refusal, checked, is_valid, room_for}
use Rattle.model.specs.Charts.{fields_in, fields_of, body_of, body_length, starts_with_field, first_field, chart_size, edges_in, chart_edges, chart_order}
use Rattle.model.specs.Charts.{same_list, same_edge, joins, word_in, has_weights, chart_weights, with_weights, table_in, chart_layout}
use Rattle.model.specs.Edits.{both_ways}
use Rattle.model.specs.Writing.{write_of, written_bytes}
use Rattle.model.specs.WrittenCharts.{field_bytes, edge_bytes, weights_of, unit_weighted, weight_field, chart_of, chart_format}

unfoldable pub chart_with_links : List ℕ → List ℕ
chart_with_links links = 0x44 ∷ 0 ∷ 1 ∷ 4 ∷ 0x4C ∷ 0 ∷ 4 ∷ (links ++ (0x52 ∷ 0 ∷ 4 ∷ 0 ∷ 1 ∷ 2 ∷ 3 ∷ []))

-- does a chart that is read with some links write these?
unfoldable pub writes_links : List ℕ → List ℕ → Bool
writes_links given links = same_list (chart_of (chart_layout (chart_with_links given))) (chart_with_links links)

-- does the call on a buffer of size bytes, each of them 7, answer this code, and leave these bytes?
unfoldable pub writes_into : Layout → ℕ → ℕ → List ℕ → Bool
writes_into l size code chart =
    let answer = write_of chart_format l (replicate size 7) in
    eqb answer.refusal code
    && eqb answer.length (length chart)
    && same_list (written_bytes chart_format l (replicate size 7)) (chart ++ replicate (size - length chart) 7)

-- by computation
pub worked_writes : let first : List ℕ = 0 ∷ 2 ∷ 1 ∷ 3 ∷ [] in
    let l = chart_layout (chart_with_links first) in
    let invalid : Layout = record { n = 2; order = l.adjacency; adjacency = l.adjacency; weights = l.weights; count = 0 } in
    T (writes_links first first
    && writes_links (3 ∷ 1 ∷ 0 ∷ 2 ∷ []) first
    && writes_links (2 ∷ 1 ∷ 3 ∷ 0 ∷ []) (0 ∷ 3 ∷ 1 ∷ 2 ∷ [])
    && writes_into l 17 19 []
    && writes_into l 18 0 (chart_with_links first)
    && writes_into l 20 0 (chart_with_links first)
    && writes_into invalid 0 11 []
    && writes_into invalid 20 11 [])
unfolding row_of is_weight even_weights weighs_edges blank_from weights_fit table_weight with_weights table_in both_ways weight has_weights chart_weights
    weights_of unit_weighted weight_field chart_with_links writes_links writes_into chart_of field_bytes edge_bytes write_of written_bytes chart_layout chart_size
    chart_edges chart_order body_of fields_of fields_in starts_with_field body_length first_field edges_in word_in joins same_edge same_list adjacent weighted_edges
    crossing_weight crossings crosses edges linked bit between alternate upto every any keep one sum_over sum_pairs no_repeats occurrences place refusal
    by_refusal checked is_valid room_for valid each_once zero_from symmetric loopless bits_below vertex_order flat_map xor
worked_writes = tt
