-- Importing: the passes together. Rising: the order 0, 1, 2 and so on in its array.
pub mod Rising
pub mod Importing
