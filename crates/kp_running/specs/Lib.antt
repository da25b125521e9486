pub mod Numbered
pub mod Bells
pub mod Engines
pub mod Pace
pub mod Running
pub mod Over
pub mod Fleet
