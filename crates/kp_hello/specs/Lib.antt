pub mod Fault
pub mod Hello
pub mod Asking
pub mod Chart
