pub mod IncludeSamples
pub mod Spots
pub mod Samples
pub mod Steps
pub mod Stretches
