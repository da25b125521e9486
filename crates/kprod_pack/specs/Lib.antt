pub mod Faults
pub mod Others
