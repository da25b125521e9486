pub mod Faults
pub mod RunText
pub mod Runs
