-- Sizes: which number's size part stands at the start of some bytes.
pub mod Sizes
