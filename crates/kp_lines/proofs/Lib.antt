pub mod LineLemmas
pub mod SplitLemmas
