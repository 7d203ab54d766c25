-- What the proofs of the code cite: a list of calls played.
pub mod PlayLoops
pub mod PlayAnswers
pub mod PlayedFrom
