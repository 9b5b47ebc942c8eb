pub mod NamesRead
pub mod Arrows
pub mod Spelled
pub mod SpelledExpressions
pub mod SpelledStatements
pub mod Lists
pub mod ObjectsRead
pub mod ObjectsComplete
pub mod TextsRead
pub mod Sound
pub mod Ends
pub mod RoutineParts
pub mod Complete
pub mod Printable
mod Samples
pub mod DeepDirectives
pub mod DeepEnds
