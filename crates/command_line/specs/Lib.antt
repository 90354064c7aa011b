pub mod Arguments
pub mod Tasks
pub mod inner
