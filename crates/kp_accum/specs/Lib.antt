pub mod Config
pub mod Budget
pub mod Queue
pub mod Measured
pub mod Marks
pub mod Ready
pub mod Accum
pub mod Sound
