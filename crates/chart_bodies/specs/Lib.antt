-- The bodies of fields 4C and 52: the words that edges give, and an order that holds each vertex once.
pub mod Words
pub mod Order
