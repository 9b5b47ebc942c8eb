pub mod Arrays
pub mod Rough
pub mod Operands
pub mod Entries
pub mod Plain
pub mod Views
