pub mod Parts
pub mod Entries
pub mod ObjectTables
mod ObjectRows
mod Linked
pub mod AbbreviationTables
pub mod Low
pub mod Lengths
mod Joined
mod Laid
