mod AccountLemmas
mod DoneLemmas
pub mod EndLemmas
pub mod FittingLemmas
mod OpeningLemmas
mod ProducerLemmas
mod SingleLemmas
pub mod ServiceLemmas
