pub mod Numbers
pub mod Needs
pub mod Orders
pub mod Cycles
pub mod Rows
pub mod Sortings
pub mod inner
pub mod Prelude
