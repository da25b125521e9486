pub mod LinkLemmas
pub mod NewsLemmas
