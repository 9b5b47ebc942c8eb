pub mod Waiting
pub mod Turning
pub mod Loading
