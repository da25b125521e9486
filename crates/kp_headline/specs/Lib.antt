pub mod Outside
pub mod Moves
pub mod Assumptions
pub mod Matching
pub mod Exhibits
pub mod Laws
pub mod Offering
pub mod Around
