pub mod Linking
pub mod Listing
pub mod Naming
pub mod Values
