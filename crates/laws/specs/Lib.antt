-- Mathematics about the definitions of model, in rooms by subject, each built on those above it; of Tables most stands below Layouts. A page says what its
-- room holds and which theorems others cite. What only one crate's loops need stands in that crate's own specs. What an edit of a
-- definition or of a claim here refutes, and what rests on it, stands in the same rooms of proofs/.
pub mod Sums
pub mod Orders
pub mod Crossings
pub mod Layouts
pub mod Sifting
pub mod Append
pub mod Small
pub mod Buffers
pub mod Charts
pub mod Tables
pub mod Graph6
