pub mod Names
pub mod Held
pub mod Tokens
pub mod Spelled
pub mod Written
pub mod ReadBack
pub mod Own
pub mod Pieces
