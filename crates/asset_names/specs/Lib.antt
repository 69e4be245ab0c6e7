pub mod Anchoring
pub mod Normalised
