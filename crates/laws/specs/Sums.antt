-- Sums and indicators: tests as 0 or 1, sums over a range and over the entries of a list, sums over pairs, the bits of a word, kinds of loops, differences
-- that wrap, and numbers that are known and small. Nothing here knows of a layout. Others cite order (a case on two numbers), one_lt and its kin, sum_ext,
-- sum_swap, all_mono, sum_over_places, Symmetric, masked ones and the bit laws, PassedUpTo and PassedBelow (entries, and numbers, asked one after the other),
-- ToldBelow (one answer for all), MadeUpTo (a value made step by step), exact_less (a difference that does not go below 0) and Bounded.
pub mod Indicators
pub mod Ranges
pub mod Lists
pub mod Every
pub mod Below
pub mod Any
pub mod Pairs
pub mod Bits
pub mod Loops
pub mod Wrapping
pub mod Numbers
