-- Numbers: the crossings of the listed edges, by the places of their ends. Answers: what the call answers, by its checks.
pub mod Numbers
pub mod Answers
