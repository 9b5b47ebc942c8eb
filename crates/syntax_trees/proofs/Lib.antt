pub mod Loops
pub mod Failing
