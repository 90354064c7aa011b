-- Definitions that only private clauses use.
pub mod Paths
pub mod BuildLines
pub mod LineReading
pub mod LineStates
