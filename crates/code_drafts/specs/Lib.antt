pub mod Layout
pub mod Addresses
pub mod Instructions
pub mod Bytes
pub mod Written
pub mod Items
pub mod Code
pub mod Writing
