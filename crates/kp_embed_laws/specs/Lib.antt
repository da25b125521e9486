pub mod Running
pub mod Connection
