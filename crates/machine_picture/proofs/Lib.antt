mod Lengthening
pub mod Marking
pub mod Showing
pub mod Beside
mod StyleSamples
pub mod Cells
pub mod Erasing
pub mod Others
pub mod Putting
pub mod Rows
pub mod Runs
pub mod Turns
mod Samples
