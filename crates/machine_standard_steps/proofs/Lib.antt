pub mod Doing
pub mod Stepping
mod Redrawing
