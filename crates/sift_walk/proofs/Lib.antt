-- What rests on the law of the walk, which edits of must-fail/ turn.
pub mod Walks
