-- The walk through the candidates of a sift, with weights: what is kept of them (Keeping), the others clockwise from a vertex (Seats), the reaches that the
-- walk starts with (Reaching), what each exchange tells (Walks), and what the walk finds (Finding).
pub mod Keeping
pub mod Seats
pub mod Reaching
pub mod Walks
pub mod Finding
