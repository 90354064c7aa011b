pub mod LineLemmas
pub mod MarkedLemmas
pub mod ClangLemmas
