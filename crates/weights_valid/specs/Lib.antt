-- The passes that ask whether a table of weights fits the words. Pairs: equal both ways round, each two vertices once. Bytes: 0 exactly where there is no
-- edge, a byte of the words at a time. Fitting: the two together, and a graph with weights. Examples: three vertices.
pub mod Pairs
pub mod Bytes
pub mod Fitting
pub mod Examples
