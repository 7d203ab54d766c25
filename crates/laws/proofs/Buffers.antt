-- The table of the crossings of every edge: its sum (EdgeTables).
pub mod EdgeTables
