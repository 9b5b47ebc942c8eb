pub mod Fronts
pub mod Printed
pub mod Says
pub mod Routines
