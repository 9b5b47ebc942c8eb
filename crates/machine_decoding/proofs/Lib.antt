pub mod Decoding
pub mod OperandsRead
pub mod GivenInByte
pub mod TypesGiven
pub mod FirstBytes
