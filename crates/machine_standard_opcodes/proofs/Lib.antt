pub mod Codes
pub mod Cuts
pub mod Heard
pub mod Keeping
pub mod Returning
pub mod Anew
pub mod WordTests
