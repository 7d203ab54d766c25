-- Sifting: the best of a state and its candidates (LocalSearch), and what is kept of candidates on the way (Keeping); sifts, rounds and settlings of any
-- lawful search (Sweeps), and lists of calls (Runs); one kind of layout shown as another (Images); a search whose candidates are orders read clockwise
-- (Circles); the ring as an instance (Candidates, Rounds, Optima, Calls); how many rounds are enough, of any lawful search and of the ring's (Enough).
-- Others cite walked_next, candidate_walked and last_stays (the walk through the candidates, Walk);
-- sweep_facts, round_no_more, rounds_spent, settled_minimum; Shows with sift_shown, all_shown, rounds_shown and their kin, steps_shown and played_shown;
-- lawful, proper_sift, proper_round, best_sifted; sifted_order_lem, sifted_optima; of the calls the lemmas accepted, refused and keeps; and settle_enough with
-- settle_exact.
pub mod LocalSearch
pub mod Keeping
pub mod Sweeps
pub mod Runs
pub mod Images
pub mod Candidates
pub mod Walk
pub mod Circles
pub mod Rounds
pub mod Optima
pub mod Calls
pub mod Enough
