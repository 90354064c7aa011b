pub mod Pushes
pub mod LinesOnly
pub mod MarkedTexts
pub mod ClangTexts
