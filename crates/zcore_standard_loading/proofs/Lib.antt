pub mod Headers
pub mod Tables
mod LoadingSamples
