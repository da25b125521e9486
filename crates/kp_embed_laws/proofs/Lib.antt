mod RunLemmas
pub mod CarryLemmas
