pub mod WireLemmas
pub mod HearingLemmas
pub mod WantLemmas
pub mod HandshakeLemmas
pub mod TalkLemmas
pub mod ListeningLemmas
pub mod IntroducingLemmas
