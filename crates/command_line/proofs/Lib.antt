pub mod Commands
pub mod Positionals
