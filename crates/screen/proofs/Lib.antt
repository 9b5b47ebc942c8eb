pub mod Adding
pub mod Questions
pub mod Calm
pub mod Drawing
pub mod Halves
pub mod Plain
pub mod Texts
pub mod Unmarking
mod Samples
mod StatusLines
