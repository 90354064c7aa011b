pub mod Documents
pub mod ReadingLemmas
pub mod Lists
pub mod NeededLemmas
pub mod Effects
pub mod ProjectOrderLemmas
pub mod Outcomes
pub mod BuildLemmas
pub mod Gains
pub mod Parts
pub mod Linked
pub mod Examples
mod ReadTargetLemmas
