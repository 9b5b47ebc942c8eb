pub mod Samples
pub mod Ends
pub mod Sources
pub mod Finishing
pub mod Decimals
