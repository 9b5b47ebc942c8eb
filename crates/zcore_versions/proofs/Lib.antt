pub mod PrintedCodes
pub mod PlainLines
pub mod FuelFacts
pub mod TableFacts
pub mod WordFacts
pub mod WindowFacts
pub mod StreamFacts
pub mod Awaiting
pub mod Falling
pub mod Objects
pub mod FlagsFacts
pub mod ForgivingFacts
pub mod Printing
pub mod Known
pub mod Refusing
pub mod Reading
pub mod StandardStepping
pub mod StandardWaiting
pub mod GivenAlike
pub mod GivenFiles
pub mod StandardTurning
pub mod Running
pub mod Restoring
mod TextFacts
mod SmallKeeping
mod SmallFalls
pub mod CallFalls
pub mod ZeroValues
pub mod VersionCalls
pub mod KnownDecoding
pub mod Stepping
pub mod SmallDone
pub mod SmallSteps
mod SmallWaitingParts
mod SmallWaiting
pub mod Waiting
pub mod Turning
mod ObjectSamples
mod OpcodeSamples
mod TextSamples
mod CallSamples
mod LineSamples
mod StatusSamples
pub mod Finding
mod Table
