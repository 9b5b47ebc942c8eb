pub mod Offsets
mod Samples
pub mod Chains
pub mod Naming
pub mod Types
pub mod CountedForms
pub mod Counts
pub mod Trees
pub mod Drafts
pub mod SideOperands
pub mod InPlace
pub mod SameRounds
pub mod WrittenItems
pub mod Reductions
