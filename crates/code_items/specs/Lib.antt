pub mod ValueWriting
pub mod Statements
pub mod Stack
pub mod Code
pub mod Laws
pub mod Writing
