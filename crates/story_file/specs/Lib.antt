pub mod Layout
pub mod Linked
pub mod Written
