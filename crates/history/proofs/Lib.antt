-- The theorem demand 3 (Demand3), and that no smaller limit is enough (Limits).
pub mod Demand3
pub mod Limits
