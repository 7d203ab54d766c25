-- Each vertex once, found by going through the places.
pub mod Seen
