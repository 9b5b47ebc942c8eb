pub mod Runs
pub mod Cut
pub mod Halving
pub mod Ranks
pub mod FirstEntries
pub mod Walking
pub mod Causes
pub mod Samples
