pub mod Places
pub mod Topics
