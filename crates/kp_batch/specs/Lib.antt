pub mod Record
pub mod Spelling
pub mod Reading
