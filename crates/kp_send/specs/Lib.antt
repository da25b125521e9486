pub mod Form
pub mod Latency
pub mod Ledger
pub mod Sender
pub mod Streaming
pub mod Telling
pub mod Texts
pub mod Words
