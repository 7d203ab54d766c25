-- The code of the search through all small orders, against its definition (Search in `laws`, Small).
pub mod Branches
pub mod Turns
