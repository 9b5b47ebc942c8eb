pub mod Put
pub mod Pieces
pub mod Read
