mod Changing
mod Choosing
pub mod Stepping
mod Storing
