mod MillisLemmas
mod EngineLemmas
mod ReachesLemmas
mod NumberedLemmas
pub mod FleetLemmas
