pub mod FirstIndexes
pub mod Parts
pub mod ProjectTargets
pub mod Refusals
pub mod Stops
