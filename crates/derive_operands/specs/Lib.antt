pub mod Alternatives
pub mod AlternativeViews
pub mod Steps
pub mod StepViews
pub mod Quiet
pub mod QuietViews
