pub mod Kept
pub mod Conditions
pub mod Branches
pub mod Held
