pub mod Asking
pub mod DelimiterWords
pub mod SendCommand
pub mod SendWords
