pub mod Zips
pub mod Moves
pub mod Insides
pub mod Views
pub mod Plays
pub mod Sessions
pub mod Players
pub mod Turning
pub mod Opening
pub mod Taking
pub mod Showings
pub mod Games
mod Samples
pub mod Given
mod ReplySamples
