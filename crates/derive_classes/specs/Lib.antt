pub mod Parts
pub mod Heads
pub mod Merged
pub mod Directives
pub mod Properties
pub mod Classes
pub mod Classed
pub mod Held
