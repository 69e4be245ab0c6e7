pub mod Cuts
pub mod Fronts
pub mod Moves
pub mod Pieces
pub mod Reading
pub mod States
pub mod Told
