pub mod Arithmetic
pub mod Values
pub mod Cutting
pub mod Entries
pub mod Constants
pub mod Held
