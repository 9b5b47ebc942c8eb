pub mod Search
pub mod Made
pub mod Arities
pub mod Held
