pub mod Disk
pub mod Moments
pub mod Reading
pub mod Writing
pub mod Laws
pub mod Prelude
