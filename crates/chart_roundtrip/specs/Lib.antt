-- Charts written and read back.
-- Fields: bytes that were written as fields are read as those fields. Listings: a chart written from any sequence of edges, and what it is read as.
-- RoundTrip: the chart of a layout, read back.
pub mod Fields
pub mod Listings
pub mod RoundTrip
