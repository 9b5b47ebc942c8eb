pub mod Samples
pub mod Rests
pub mod Statements
pub mod QuietChoices
pub mod QuietSteps
