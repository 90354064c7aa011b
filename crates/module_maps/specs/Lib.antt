pub mod Values
pub mod Maps
pub mod MapLines
pub mod MarkedMaps
pub mod GccMaps
pub mod ClangMaps
pub mod map_laws
pub mod Prelude
