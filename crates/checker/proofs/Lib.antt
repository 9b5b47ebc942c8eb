pub mod Samples
mod ArraySamples
mod LoopSamples
mod WordSamples
mod ObjectSamples
mod AbbreviationSamples
pub mod DirectiveLists
pub mod Directives
pub mod LocalNames
pub mod Locals
pub mod Whole
pub mod Abbreviated
pub mod Numbered
mod AbbreviationLimits
mod NeedsBelow
mod MeantNames
mod UnbrokenValues
mod Unbroken
mod BreaksStand
mod Renumbered
mod Bindings
mod Placed
mod FewDirectives
mod FewListed
mod Acceptance
mod Printable
