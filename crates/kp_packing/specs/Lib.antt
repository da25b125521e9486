pub mod Offered
pub mod Packed
pub mod Report
