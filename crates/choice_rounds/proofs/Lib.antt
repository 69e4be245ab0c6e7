pub mod Sets
pub mod Told
pub mod Stage
pub mod Rounds
