pub mod Hashed
pub mod Entries
pub mod Keys
