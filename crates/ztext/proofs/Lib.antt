pub mod Packing
pub mod TextSizes
pub mod Longest
pub mod Spelling
pub mod Causes
pub mod Fronts
pub mod Loops
pub mod Keys
pub mod RoundTrip
pub mod Shortening
pub mod Expanding
pub mod Copies
pub mod Printable
pub mod Holding
mod Samples
mod AbbreviationSamples
