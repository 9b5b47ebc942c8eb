pub mod Settled
pub mod Read
pub mod SumNames
