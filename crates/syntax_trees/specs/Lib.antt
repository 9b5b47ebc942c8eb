pub mod Tree
pub mod Views
pub mod Stop
pub mod Parse
pub mod Returned
pub mod Errors
