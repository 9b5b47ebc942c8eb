pub mod Answering
pub mod Cuts
pub mod Digits
pub mod Headings
pub mod Marks
pub mod Reading
pub mod Taking
pub mod Waiting
