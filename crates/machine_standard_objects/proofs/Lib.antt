pub mod Stepping
pub mod Performing
pub mod Characters
pub mod Flagging
pub mod Slips
