mod Lists
mod MakerTables
mod PathTexts
mod StatementChecks
mod StringTexts
mod Effects
mod Extensions
mod FileOrders
mod EdgeOrders
mod JoinedFiles
mod Unions
pub mod ListingRuns
pub mod ListingLineLemmas
pub mod ListingForms
pub mod ListingClasses
pub mod ListingCauses
pub mod ListingLaws
mod ListingStays
mod WrittenSymbols
mod WrittenLines
mod WrittenListings
