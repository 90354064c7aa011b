pub mod Names
pub mod JsonStrings
pub mod InfoTexts
pub mod Sending
pub mod Each
pub mod Exact
