pub mod Files
pub mod Input
pub mod Publishing
