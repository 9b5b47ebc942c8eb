pub mod Samples
pub mod Named
pub mod Directives
pub mod Kept
pub mod Stretches
pub mod QuietLists
pub mod QuietLoops
