pub mod Sums
pub mod Views
