-- Answers: what a call that fills a lent buffer answers, and leaves in it, by its checks.
pub mod Answers
