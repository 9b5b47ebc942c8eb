pub mod Lines
pub mod Filling
pub mod Words
pub mod Buffers
