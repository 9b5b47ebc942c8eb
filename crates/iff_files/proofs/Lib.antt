pub mod Cut
mod StorySamples
pub mod PackedBytes
pub mod ReadFrames
pub mod FoundChunks
pub mod Lengths
pub mod ReadSaves
pub mod Samples
pub mod FewFrames
