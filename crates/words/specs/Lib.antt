-- Each: what a test of every entry says.
pub mod Each
