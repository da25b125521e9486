pub mod Slots
pub mod Cluster
pub mod Backoff
pub mod Actions
pub mod Metadata
pub mod Learning
pub mod Sound
pub mod Runs
