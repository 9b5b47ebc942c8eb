pub mod Parts
pub mod Included
pub mod Texts
pub mod Held
pub mod Directives
pub mod Joined
pub mod Origin
pub mod Joiners
