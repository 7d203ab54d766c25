-- Fields: a header with its body behind it, and three fields, written. Answers: what the call answers, by its checks.
pub mod Fields
pub mod Answers
