pub mod Wording
pub mod Spoken
pub mod Samples
pub mod Outcomes
pub mod Rooms
pub mod Outside
pub mod Turns
pub mod Plain
