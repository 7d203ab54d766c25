-- What `best_places` and `converged_is_minimum` of demand 3 exclude by themselves: "a sift that leaves the ring alone and a "settled" said before any
-- sifting". On the first worked ring (links 0-2 and 1-3, order 0 1 2 3) vertex 0 does not stand at a best place, so that a sift of 0 cannot have left the
-- ring as it was; and the ring is no local minimum, so that no answer with it can say converged.
use Rattle.std.specs.Prelude.{◌<◌, ◌≡◌, refl}
use Rattle.std.proofs.Common.{arith}
use Rattle.std.proofs.Math.Bool.{xor}
use mathlib.Core.List.{flat_map}
use Rattle.model.specs.declared.Layout.{Layout}
use Rattle.model.specs.Lists.{one, upto, every, any, keep, sum_pairs, sum_over, no_repeats, occurrences, place}
use Rattle.model.specs.Crossings.{bit, linked, between, alternate, crosses, adjacent, weighted_edges, crossing_weight, crossings}
use Rattle.model.specs.Layouts.{row_of, is_weight, even_weights, weighs_edges, blank_from, weights_fit, table_weight}
use Rattle.model.specs.Layouts.{vertex_order, weight, crossings_of, each_once, zero_from, symmetric, loopless, bits_below, valid, changed, reordered}
use Rattle.model.specs.Checks.{refusal, by_refusal, checked, is_valid, is_vertex, differ}
use Rattle.model.specs.Edits.{both_ways, changed_or, insert_after, moved_after, move_checks, move_of}
use Rattle.model.specs.Charts.{same_edge, joins, word_in, with_weights, table_in}
use Rattle.model.specs.Histories.{BestPlace, LocalMinimum}
use Rattle.model.specs.Starred.{first, ◌to◌, weighted_layout_of, layout_of}

unfoldable pub first_ring : Layout
first_ring = layout_of first

vertices : first_ring.n ≡ 4
unfolding first_ring weighted_layout_of layout_of first
vertices = refl

-- one crossing; with 0 behind 1 none
one_crossing : crossings_of first_ring ≡ 1
unfolding table_weight with_weights table_in both_ways weighted_layout_of first_ring layout_of first ◌to◌ one upto any keep sum_pairs sum_over no_repeats place bit
    linked between alternate crosses adjacent weighted_edges
    crossing_weight crossings vertex_order weight crossings_of same_edge joins word_in flat_map xor
one_crossing = refl

moved_none : crossings_of (move_of first_ring 0 1).layout ≡ 0
unfolding row_of is_weight even_weights weighs_edges blank_from weights_fit table_weight with_weights table_in both_ways weighted_layout_of
    first_ring layout_of first ◌to◌ one upto every any keep sum_pairs sum_over no_repeats occurrences place bit linked between alternate crosses adjacent
    weighted_edges crossing_weight crossings vertex_order weight crossings_of each_once zero_from symmetric loopless bits_below valid changed reordered refusal
    by_refusal checked is_valid is_vertex differ changed_or insert_after moved_after move_checks move_of same_edge joins word_in flat_map xor
moved_none = refl

pub left_alone_not_best : BestPlace first_ring 0 → ⊥
left_alone_not_best best =
    let there : 1 < first_ring.n = omega (arith, vertices) in
    omega (arith, one_crossing, moved_none, (best 1 there (λ e. omega arith)).1)

pub unsifted_no_minimum : LocalMinimum first_ring → ⊥
unsifted_no_minimum minimum = left_alone_not_best (minimum 0 (omega (arith, vertices)))
