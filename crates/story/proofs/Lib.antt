mod Asking
mod StandardHolding
mod Lifting
mod Loading
mod Playing
pub mod StandardReading
mod StandardSizes
mod Texts
pub mod Most
pub mod BoundsOfForms
pub mod Bounds
pub mod SizesOfOperations
pub mod SizesOfCalls
pub mod SizesOfBranches
pub mod SizesOfItems
pub mod SizesOfInstructions
pub mod SizesOfOperands
pub mod SizesOfObjects
pub mod SizesOfProperties
pub mod SizesOfTexts
pub mod SizesOfNames
pub mod SizesOfExpressions
pub mod SizesOfStatements
pub mod SizesOfLoops
pub mod SizesOfCases
pub mod SizesOfTrees
pub mod SizesOfDirectives
pub mod SizesOfPrograms
pub mod SizesOfChecked
mod SizesSamples
mod Runs
mod Samples
mod PlayedSamples
mod LaidSamples
mod Reading
mod PackedParts
mod Holding
pub mod Sizes
pub mod Faults
pub mod SizeTests
mod Numbered
pub mod Compiling
pub mod Standing
mod Light
