pub mod Polling
pub mod Around
pub mod Laws
pub mod Bytes
pub mod Settled
