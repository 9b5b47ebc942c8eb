pub mod Answering
mod Walks
mod NameSamples
pub mod Cutting
pub mod Telling
mod Samples
