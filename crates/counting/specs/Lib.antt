-- The loops of the counter.
pub mod Loops
