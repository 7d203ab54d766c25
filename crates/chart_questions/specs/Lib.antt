-- The fields of a chart, found one after the other.
pub mod Fields
