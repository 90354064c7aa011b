pub mod Histories
pub mod Runs
pub mod Killed
pub mod Program
pub mod Prelude
