pub mod Marks
pub mod Represented
pub mod Styles
pub mod Picture
pub mod Begun
pub mod Drawing
