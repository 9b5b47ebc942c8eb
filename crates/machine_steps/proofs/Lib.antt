pub mod Performing
pub mod Stepping
pub mod Values
