pub mod Passes
pub mod Extended
pub mod Held
