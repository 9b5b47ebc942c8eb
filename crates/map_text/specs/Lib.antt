pub mod Text
pub mod Reading
pub mod Heading
pub mod Found
