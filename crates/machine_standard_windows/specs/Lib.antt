pub mod TurnState
pub mod Drawn
