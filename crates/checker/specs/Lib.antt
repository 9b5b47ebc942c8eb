pub mod Programs
pub mod Checked
pub mod Resolving
pub mod Laws
pub mod Places
pub mod Next
