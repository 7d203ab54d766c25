-- The vertex that an index names, and the order that it leads to.
pub mod Indices
