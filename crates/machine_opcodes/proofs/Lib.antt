pub mod Saying
pub mod SignedWords
pub mod Transcripts
pub mod Fronts
pub mod Operating
pub mod Targets
