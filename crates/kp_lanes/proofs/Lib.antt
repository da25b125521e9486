pub mod EachLemmas
pub mod EntryLemmas
pub mod GateSteps
pub mod SendLemmas
pub mod SettlingLemmas
