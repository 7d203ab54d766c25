-- Greedy append, what rests on what a vertex adds to the crossings met: the call lay (Calls), and each crossing counted once (Once).
pub mod Calls
pub mod Once
