-- What an accepted call on a small layout has passed, and what that gives the functions that it calls.
pub mod Accepted
