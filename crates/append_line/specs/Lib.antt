-- A list of vertices that grows at both ends: what is put where, and the list that it gives.
pub mod Lines
