pub mod Parses
