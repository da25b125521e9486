pub mod Faults
pub mod Others
pub mod Replays
