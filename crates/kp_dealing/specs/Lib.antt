pub mod Dealing
pub mod Sizing
