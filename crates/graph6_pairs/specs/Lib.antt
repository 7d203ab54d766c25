-- Padding: the bits behind those of the pairs. Questions: what 21 and 22 answer. Joining: the words of the pairs whose bit is set.
pub mod Padding
pub mod Questions
pub mod Joining
