pub mod Printed
pub mod Read
pub mod Refused
pub mod Adding
pub mod Among
