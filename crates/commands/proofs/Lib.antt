pub mod Examples
pub mod FirstIndexes
pub mod ForCallers
pub mod Listings
pub mod Outcomes
pub mod Targets
pub mod ReadOnce
