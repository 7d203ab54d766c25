-- The theorems of lay and the former rule, and of weights that are and stay 1: what they say stands in specs/.
pub mod Runs
pub mod AsFormerly
pub mod Forgetting
pub mod AsBefore
pub mod Starts
pub mod Listed
