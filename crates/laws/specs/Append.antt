-- Greedy append: the placed list and the vertices that wait (Order), the placed ones as bits (Held), the exact tally over any weight (Crossings), vertices without edges (Isolated),
-- two weights that agree (Agreeing), the call lay, with its former rule (Calls), and that each crossing is counted once, in the step that closes the first
-- of its edges (Once).
-- Others cite Placed, Waiting, next_waiting, step_waiting; Held, held_front, held_back, placed_test; met_back, met_front, met_finished; front_none, back_none, isolated_at_back; all_same; laid_all,
-- former_laid_all, laid_tally, lay_permutation, lay_tally, lay_count and lay_keeps; first_at_back, first_at_front, step_counted, lay_tally_closed and lay_once.
pub mod Order
pub mod Held
pub mod Crossings
pub mod Isolated
pub mod Agreeing
pub mod Calls
pub mod Once
