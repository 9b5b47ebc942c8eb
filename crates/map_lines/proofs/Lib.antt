pub mod Rising
pub mod Growing
