pub mod NumberLemmas
pub mod GivenLemmas
pub mod FaultLemmas
mod ChartLemmas
