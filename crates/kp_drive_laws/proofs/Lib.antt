pub mod CarryingLemmas
