-- How long an accepted chart can be (Lengths).
pub mod Lengths
