-- Demand 3: open Demand3 first. StepLaws has what it takes of each call, Excluded what two of its sentences rule out by themselves, and Limits which limit of
-- rounds is enough.
pub mod StepLaws
pub mod Demand3
pub mod Excluded
pub mod Limits
