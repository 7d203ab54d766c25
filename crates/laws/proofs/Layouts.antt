-- The crossings of a valid layout as counts over places and their bound (Validity, Complete), a vertex added (VertexEdits), what every call keeps
-- (Reordering, EditCalls), and whether every edge weighs 1 (Units).
pub mod Validity
pub mod Units
pub mod Complete
pub mod VertexEdits
pub mod Reordering
pub mod EditCalls
