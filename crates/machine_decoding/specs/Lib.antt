pub mod Seen
pub mod Decoded
pub mod Forms
