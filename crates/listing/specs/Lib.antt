-- The parts of a listing.
pub mod Text
