mod Calling
mod InitialValues
mod Setting
mod VersionTexts
