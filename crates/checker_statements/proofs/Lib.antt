pub mod ArraySizes
pub mod ArrayBytes
pub mod ArrayLists
pub mod NameTables
pub mod ObjectLists
pub mod Chains
pub mod Sizes
pub mod MadeActions
pub mod HeadingNeeds
pub mod Forms
pub mod ReadNames
mod Samples
pub mod Shapes
pub mod MadeStatements
pub mod StatementForms
mod StatementSamples
