pub mod LockedReading
pub mod LockedPrinting
