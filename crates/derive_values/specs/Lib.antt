pub mod Lifted
pub mod Places
pub mod Values
pub mod Views
