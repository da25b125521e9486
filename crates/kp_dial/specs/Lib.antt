pub mod Dialing
