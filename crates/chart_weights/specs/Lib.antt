-- The weights of a chart's links, listed or all 1: asked, and set in a table one after the other.
pub mod Listed
