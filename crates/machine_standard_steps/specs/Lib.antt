pub mod Kinds
pub mod Redrawing
pub mod Versions
