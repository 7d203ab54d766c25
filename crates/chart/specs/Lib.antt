-- The passes of the reader, one after the other.
pub mod Reading
