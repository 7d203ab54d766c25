-- Tables of weights, 64 rows of 64 bytes (document 02, Note 8): an entry, the sum of a row, rows added to numbers or taken away (Rows), a table that fits
-- words (Fits), a weight set both ways round (Edits), an order and a table that can be drawn (Drawn), the crossings counted over them (Counts), and the
-- weight of open edges in greedy append as numbers (Ends). Layouts rests on Fits, Drawn and Counts, and Ends on Append.
-- Others cite table_weight, row_weight, row_sum, row_weight_lem and row_products, SummedUpTo, RowsOf, AddedRow, TakenRow; Fits with fits_each, each_fits,
-- fits_light and fits_symmetric, IsWeight; both_size, both_there, both_back and both_other; Weighted; counted (what the counter answers for any bytes),
-- counted_most and counted_crossings; StillOpen, OpenOf, open_start, open_taken, front_open and back_open.
pub mod Rows
pub mod Fits
pub mod Edits
pub mod Drawn
pub mod Counts
pub mod Ends
