-- What rests on the counting identity (Counting, Bound), on two neighbours exchanged (Exchange, Reaches) and on what a chord crosses (Chords).
pub mod Counting
pub mod Exchange
pub mod Reaches
pub mod Bound
pub mod Chords
