pub mod ServeLemmas
pub mod LinkLemmas
pub mod TurnLemmas
pub mod SinceLemmas
pub mod DoLemmas
pub mod DriveLemmas
pub mod UseLemmas
