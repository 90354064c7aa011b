-- Definitions that only private clauses use.
pub mod Inputs
pub mod Makers
pub mod BadPaths
pub mod StatementEdges
pub mod Strings
pub mod Added
pub mod Checked
pub mod Extended
pub mod ListingWalk
pub mod ListingRows
pub mod ReadLines
pub mod Unions
