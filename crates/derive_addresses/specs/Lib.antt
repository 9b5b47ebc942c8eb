pub mod Words
pub mod Addresses
pub mod Made
pub mod Views
