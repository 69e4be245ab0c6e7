pub mod Complete
pub mod NameRuns
pub mod ParseExact
pub mod PathOf
pub mod Selections
pub mod Shapes
pub mod Sound
