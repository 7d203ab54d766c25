-- Orders: lists that hold each vertex once, and a vertex moved behind another in one.
-- Others cite Permutation, at_lt, place_of_at, at_of_place, sum_vertices, order_sum, sum_before, sum_behind, sum_between;
-- moved_permutation, moved_again and moved_from.
pub mod Permutations
pub mod Moves
