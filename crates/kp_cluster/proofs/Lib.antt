pub mod SlotLemmas
pub mod LearningLemmas
pub mod ClusterLemmas
pub mod PauseLemmas
pub mod IdLemmas
pub mod DueLemmas
