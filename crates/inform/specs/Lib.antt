pub mod Files
pub mod Gathered
pub mod Compiled
