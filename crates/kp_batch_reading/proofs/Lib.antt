pub mod GatherLemmas
pub mod WholeLemmas
