pub mod SmallEntries
pub mod LargeKeys
pub mod Packing
pub mod Parsing
pub mod Buffers
pub mod Typing
pub mod Handing
pub mod Locking
