pub mod Stories
pub mod Differences
pub mod Frames
pub mod Chunks
pub mod SaveFiles
pub mod Steps
