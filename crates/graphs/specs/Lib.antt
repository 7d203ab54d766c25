-- Bounds: a word below a bound.
pub mod Bounds
