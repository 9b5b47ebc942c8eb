pub mod Cutting
pub mod Routines
pub mod Mapped
pub mod Switches
pub mod Folding
pub mod ObjectLists
pub mod Forests
pub mod FirstForest
mod LoopSamples
mod ReadSamples
mod CallSamples
mod ObjectSamples
