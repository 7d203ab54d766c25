-- The crossings at either end as sums over a line's list, for any bytes, and what they are in greedy append.
pub mod Ends
-- One pass over the list, and its loop.
pub mod Passes
pub mod Placed
