pub mod Walks
pub mod Normal
pub mod Normalised
