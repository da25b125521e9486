pub mod Over
pub mod Told
pub mod Accounts
pub mod Ending
