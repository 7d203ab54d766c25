-- The list of all orders with vertex 0 first (document 02, Note 10): how many there are, and that each holds each vertex once (Entries); that every order
-- that vertex 0 leads is there exactly once (Once); that they rise in dictionary order (Dictionary); the order with an index, vertex by vertex (Index); that
-- no order at all has fewer crossings than the least of them (Least); that the crossings met so far only rise as vertices are placed (Branches), so that a
-- search through the list may leave out what starts with too many (Search). Over any weight of the edges.
-- Others cite orders_number, orders_leading, orders_once, orders_rising, order_at_lem, none_fewer, first_least_lem, valid_least and search_answer.
pub mod Entries
pub mod Once
pub mod Dictionary
pub mod Index
pub mod Least
pub mod Branches
pub mod Search
