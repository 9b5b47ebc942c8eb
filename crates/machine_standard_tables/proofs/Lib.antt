pub mod Tests
pub mod Fields
pub mod Bytes
pub mod Copies
pub mod Rows
