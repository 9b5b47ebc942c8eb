mod ObjectSamples
pub mod KeepingReads
pub mod Keeping
pub mod KeepingObjects
pub mod Ahead
pub mod TextAhead
pub mod FallsOfParts
pub mod FallsOfEffects
pub mod FallsOfObjects
pub mod FallsOfOperations
pub mod Falls
pub mod Turning
pub mod WaitingTests
pub mod WaitingParts
pub mod WaitingEffects
pub mod WaitingObjectParts
pub mod WaitingObjects
pub mod WaitingOperations
pub mod Waiting
pub mod Searching
pub mod EncodingParts
pub mod EncodingOpcodes
pub mod Encoding
mod SmallRuns
mod BranchRuns
mod Runs
mod LineSamples
