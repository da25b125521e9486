pub mod Faults
pub mod Settings
