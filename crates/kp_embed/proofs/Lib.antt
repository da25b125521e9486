pub mod ActLemmas
pub mod AskLemmas
pub mod HearLemmas
pub mod LineLemmas
pub mod TakeLemmas
pub mod SendLemmas
pub mod TickLemmas
pub mod DueLemmas
