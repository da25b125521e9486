pub mod Links
pub mod Asking
pub mod News
pub mod Network
