pub mod Optional
pub mod Chains
pub mod Numbers
pub mod Rows
pub mod Broken
pub mod Passed
pub mod Sequences
