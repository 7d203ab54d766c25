-- The edges of a chart, read one after the other.
pub mod Edges
