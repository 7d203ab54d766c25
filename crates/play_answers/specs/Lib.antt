-- Lines: how long an answer line may be.
pub mod Lines
