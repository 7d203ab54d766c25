-- Buffers: what is written into a list of bytes or numbers, part behind part; decimal numbers; edges and charts as bytes; a buffer filled in any format; the
-- table of the crossings of every edge. Others cite written, Written with written_step and written_whole, decimal_more, edge_bytes_append, -length and -at,
-- chart_edges_lem, chart_length and chart_size_lem; Coded with chart_coded, graph6_coded and table_coded, Fits, fill_accepted, fill_answered and filled_whole;
-- write_accepted, write_accepts and written_front; numbers_length and table_twice.
pub mod Writing
pub mod EdgeBytes
pub mod Charts
pub mod Formats
pub mod EdgeTables
