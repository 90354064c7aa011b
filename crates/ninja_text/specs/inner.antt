-- Definitions that only private clauses use.
pub mod ComponentLists
pub mod Joins
pub mod TokenStarts
pub mod Runs
pub mod PlainTexts
pub mod Reaching
pub mod PieceReading
pub mod PlainPaths
