-- Bits: the bytes that hold six bits, and bit k of some bytes.
pub mod Bits
