-- The theorems that rest on a definition or a claim of specs/ which an edit of must-fail/ turns, in the rooms of specs/: a wrong definition or claim is
-- refused here.
pub mod Crossings
pub mod Layouts
pub mod Sifting
pub mod Append
pub mod Small
pub mod Buffers
pub mod Charts
pub mod Tables
