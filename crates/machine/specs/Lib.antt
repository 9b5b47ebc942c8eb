pub mod Loaded
pub mod Ended
