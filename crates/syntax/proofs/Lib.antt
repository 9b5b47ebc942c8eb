pub mod EntriesRead
pub mod Sound
pub mod Complete
pub mod Main
pub mod Printable
pub mod Weighed
mod Samples
pub mod Suffixes
pub mod Frames
pub mod Machine
pub mod StackWords
pub mod KeptExpressions
pub mod Kept
pub mod Taken
pub mod Stopped
mod MachineSamples
pub mod After
pub mod Expressions
pub mod Values
pub mod Rows
pub mod Parts
pub mod Items
pub mod Either
pub mod Bodies
pub mod Statements
pub mod Objects
pub mod Directives
pub mod Shallow
pub mod EntriesFollow
pub mod FirstUnfit
pub mod FirstDeep
pub mod Placing
mod PlaceSamples
