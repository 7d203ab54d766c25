-- What the proofs of the exports cite.
pub mod Stores
