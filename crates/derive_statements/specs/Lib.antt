pub mod FileNames
pub mod Main
pub mod Lists
pub mod Loops
pub mod Prints
pub mod Views
pub mod PrintViews
pub mod Quiet
