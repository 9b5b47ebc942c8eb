pub mod ObjectCode
pub mod Written
pub mod Instructions
pub mod Places
