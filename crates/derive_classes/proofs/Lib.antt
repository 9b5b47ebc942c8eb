pub mod Cuts
pub mod Programs
pub mod Samples
pub mod Tests
