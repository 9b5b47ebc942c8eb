pub mod Taking
pub mod Parts
pub mod Locks
