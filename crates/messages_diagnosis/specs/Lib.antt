pub mod Diagnosed
pub mod Needs
pub mod Walk
pub mod Figures
pub mod Measured
