-- The most that the counter of weighted crossings can answer (Counts).
pub mod Counts
