pub mod Capabilities
pub mod Loading
