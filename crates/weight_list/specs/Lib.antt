-- The weights of the listed edges, by the bytes of their ends, written one after the other.
pub mod Weighed
