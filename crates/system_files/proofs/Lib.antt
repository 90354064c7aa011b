pub mod ForCallers
pub mod Calls
pub mod InPlace
pub mod Moments
pub mod ReadFrom
