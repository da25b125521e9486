pub mod AcceptedLemmas
pub mod FetchingLemmas
pub mod TellingLemmas
pub mod ShownLemmas
pub mod AcceptingLemmas
pub mod KindLemmas
pub mod ReachedLemmas
pub mod OrderLemmas
pub mod HearingLemmas
pub mod LeadingLemmas
pub mod EachLemmas
pub mod SendLemmas
pub mod OtherLemmas
pub mod ServingLemmas
pub mod DeliverLemmas
mod LineLemmas
mod PlaceLemmas
mod ReplayLawLemmas
mod ReplayingLemmas
mod TextLemmas
