mod Pairing
mod Extending
mod Plain
mod ByStandard
mod Samples
