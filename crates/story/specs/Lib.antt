pub mod Played
pub mod CodeSizes
pub mod Refused
pub mod Playable
pub mod Compiled
pub mod FaultPlaces
pub mod Large
pub mod Laws
