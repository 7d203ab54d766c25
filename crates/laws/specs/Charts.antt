-- Charts and listed edges: fields one after the other (Fields), edges by their two ends (Ends), ends taken modulo 64 (Wrapped), the words that a list of
-- edges gives (Words) and the table of their weights (Weights), an order in its array (Padded), the layout of some edges and an order (Layouts), a reader's
-- passes one after the other (Passes), what reading a chart gives (Reading), whatever the sequence of its edges (Sequence), and the edges of a layout listed
-- (EdgeLists), with their weights (EdgeWeights); how long an accepted chart can be (Lengths).
-- Others cite fields_there, fields_none; edge, edge_ends, edges_next; wrapped and wrapped_edges; adjacency_of, adjacency_linked, edge_joined; Accepted and
-- valid_read; read_as_accepted, asked_on and asked_back; read_number, read_is, read_valid, read_sized, same_charts; rewriting_free; edges_words; table_again;
-- accepted_length.
pub mod Fields
pub mod Ends
pub mod Wrapped
pub mod Words
pub mod Weights
pub mod Padded
pub mod Layouts
pub mod Passes
pub mod Reading
pub mod Sequence
pub mod EdgeLists
pub mod Lengths
pub mod EdgeWeights
