mod Naming
mod Joining
mod Filling
mod Columns
mod Performing
pub mod Stepping
