-- Crossings, over any weight of the edges that is symmetric and 0 from a vertex to itself; the pairs of document 01 are the instance of weight 1 (Units).
-- Others cite crossing_sum_counted (the counting identity), crossings_sum, unit_crossings, edges_within (the ends of listed edges), edges_twice (each
-- edge's crossings, summed), closed_crossings and crossings_closed_lem (the crossings of a list, by its entries), turned_lists (where the list starts
-- makes no difference), exchanged, exchanged_inside, exchanged_round and lost_few (two neighbours exchanged), lost_ranked and gained_ranked (what
-- that changes, by sums over the vertices), Reaches with walked_reached and row_reached (the same along a walk, by one sum over a row),
-- agreeing_crossings (two weights that agree on all vertices), printed_false (Lemma 1 of document 004 as printed), crossing_sum_bound with most_crossings
-- and most_weighted, edges_few and most_edges, vertex_at and vertex_within (the vertex at a place), Holds, masked_sum and weight_bit (sets of vertices as
-- words), chord_crossings with chord_crossings_lem and edge_chord (what a chord and an edge cross) and chord_next, chord_closed and chord_opened (from one
-- place to the next).
pub mod Alternation
pub mod Counting
pub mod Edges
pub mod Units
pub mod Agreeing
pub mod Lists
pub mod Exchange
pub mod Reaches
pub mod LemmaOne
pub mod Bound
pub mod Masks
pub mod Chords
