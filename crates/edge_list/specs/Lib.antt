-- Rows: the edges from a vertex to higher ones, and all edges row by row, counted and written. Listed: the edges read from what was written.
pub mod Rows
pub mod Listed
