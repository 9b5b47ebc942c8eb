pub mod Asked
pub mod Restored
pub mod Written
