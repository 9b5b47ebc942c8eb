pub mod Depth
pub mod Roles
pub mod Heads
pub mod Calls
pub mod Quiet
pub mod Views
