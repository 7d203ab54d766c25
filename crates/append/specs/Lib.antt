-- The steps of greedy append: what they go through, and that it is what the definition says.
pub mod Masks
pub mod Choices
pub mod Steps
pub mod Rest
pub mod Calls
