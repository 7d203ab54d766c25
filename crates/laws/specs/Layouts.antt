-- Valid layouts, the checks of a call, and the edits: what a valid layout has, what an accepted call may count on, and that every call keeps a valid layout
-- valid and a right count right. Others cite sound and sound_valid, valid_symmetric and weight_most, crossings_bound, crossings_complete and crossings_most,
-- weighted (a valid layout's order and table can be drawn), adjacent_linked, weight_within_words and valid_edges (weights and words), checked_either and
-- checked_both, counted_valid (what the counter counts), carried_changed and recounted_changed (the count carried on), Keeps with add_keeps, link_keeps,
-- unlink_keeps and move_keeps, unit_asked (is every weight 1?), none_exactly and shown_crosses, edge_crossings_twice (the numbers of all edges sum to twice
-- the crossings), and Sized.
pub mod Validity
pub mod Units
pub mod Weights
pub mod Zeros
pub mod Refusals
pub mod Recount
pub mod EdgeEdits
pub mod VertexEdits
pub mod Reordering
pub mod FirstCrossing
pub mod EdgeCrossings
pub mod Sizes
pub mod EditCalls
