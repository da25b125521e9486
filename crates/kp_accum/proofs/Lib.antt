pub mod QueueLemmas
pub mod MarkLemmas
pub mod AccumLemmas
