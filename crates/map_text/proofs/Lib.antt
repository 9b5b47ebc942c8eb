pub mod Cuts
pub mod Digits
pub mod Ascending
pub mod Lines
pub mod Rounds
mod Samples
mod HeadingSamples
