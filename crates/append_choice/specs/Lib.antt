-- The choice of the next vertex, as the code makes it.
pub mod Choices
