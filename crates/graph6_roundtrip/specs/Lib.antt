-- Graphs exported and imported, and imported and exported.
-- Bits: bits packed into bytes and unpacked again, and the other way round. Edges: the edges of a graph's bits, and the bits of the edges that are chosen.
-- Ones: edges that all weigh 1. Exports: the length and the bytes of an export. RoundTrip: the export of a layout, imported; an accepted import, exported.
pub mod Bits
pub mod Edges
pub mod Ones
pub mod Exports
pub mod RoundTrip
