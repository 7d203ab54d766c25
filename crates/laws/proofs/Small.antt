-- The crossings met so far only rise (Branches), and the search that leaves branches out (Search).
pub mod Branches
pub mod Search
