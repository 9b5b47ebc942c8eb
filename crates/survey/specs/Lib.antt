pub mod Facts
pub mod Editions
pub mod Beginnings
pub mod Misplaced
pub mod Measures
pub mod Verdict
pub mod Noted
pub mod Refusals
