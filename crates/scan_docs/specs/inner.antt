-- Definitions that only private contracts use.
pub mod Reading
pub mod Writing
