pub mod BareMaps
pub mod BareLemmas
