pub mod ObjectTests
pub mod Givens
pub mod Printable
