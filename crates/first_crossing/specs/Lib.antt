-- The search for a crossing pair.
pub mod Search
