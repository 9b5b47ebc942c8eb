pub mod Chaining
pub mod Scripting
pub mod Marked
pub mod Replying
pub mod Long
pub mod Given
pub mod Going
pub mod Said
mod Samples
