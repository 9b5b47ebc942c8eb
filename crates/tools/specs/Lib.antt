pub mod Headline
pub mod Extended
pub mod Standard
