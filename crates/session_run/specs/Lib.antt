pub mod Acts
pub mod Given
pub mod Told
pub mod Heard
pub mod Ran
