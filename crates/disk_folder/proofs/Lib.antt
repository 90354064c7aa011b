pub mod Histories
pub mod Runs
pub mod Writes
pub mod FileCalls
pub mod Reading
pub mod Killed
