-- What rests on the step of the definition, which an edit of must-fail/ turns.
pub mod Stepping
