pub mod TurnTexts
pub mod TextLines
pub mod Drawing
pub mod Selecting
