pub mod Loading
pub mod Refusing
