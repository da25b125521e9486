pub mod Lines
pub mod Words
pub mod Grammar
pub mod Reading
pub mod Config
pub mod Draft
pub mod Schedule
