-- Bits: the pairs packed one after the other.
pub mod Bits
