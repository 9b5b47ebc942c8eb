pub mod Samples
pub mod Rows
pub mod Cuts
pub mod Characters
pub mod Groups
