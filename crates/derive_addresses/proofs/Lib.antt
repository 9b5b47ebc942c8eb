pub mod WordSamples
pub mod WordRounds
pub mod Chains
pub mod Rounds
pub mod EntryRounds
pub mod Without
pub mod Samples
