pub mod SmallEntries
pub mod Naming
pub mod Walking
pub mod Listing
pub mod Values
