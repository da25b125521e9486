pub mod OverLemmas
pub mod ReportLemmas
pub mod StandLemmas
pub mod TakenLemmas
pub mod AccountLemmas
pub mod SentLemmas
pub mod EndingLemmas
