pub mod Samples
pub mod Halves
pub mod Groups
pub mod Levels
pub mod Rounds
pub mod Taken
pub mod Chains
