-- Text in a lent buffer: Room says what a call writes, and what it does where there is no room.
pub mod Parts
pub mod Room
