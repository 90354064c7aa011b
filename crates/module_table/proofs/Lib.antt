pub mod Words
pub mod Found
pub mod Passing
pub mod Places
pub mod Lists
pub mod IndexRows
pub mod Graph
pub mod NeededPairs
pub mod Faultless
pub mod Pairs
pub mod Mentions
pub mod OneReported
mod BeginningLemmas
pub mod PartLemmas
mod Bits
mod PoolLemmas
mod Sparse
pub mod ForCallers
