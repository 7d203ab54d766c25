-- Graph6: six bits a byte, the pairs of vertices by rising higher end with a bit for each, and the size in front; what an import gives (Imports).
-- Others cite unpacked_length, -at and -bits; packed_in with packed_in_at, -same, -zero, -one and -take, packed_below, packed_room; pairs_next, -length and
-- -most, sum_over_pairs, chosen_next, -ext and -within, pair_bits_bits and -length; size_starts, starts_with, size_found_lem and size_accepted;
-- six_within; import_is, imported_graph6, imported_valid and imported_sized.
pub mod Packing
pub mod Pairs
pub mod Sizes
pub mod SixBits
pub mod Imports
