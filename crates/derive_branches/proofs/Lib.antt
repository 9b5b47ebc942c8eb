pub mod Divisions
pub mod Steps
mod Samples
