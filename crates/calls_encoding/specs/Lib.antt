-- CallLists: the calls read from numbers. Answers: the numbers of an answer.
pub mod CallLists
pub mod Answers
