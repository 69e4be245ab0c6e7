pub mod Causes
pub mod Edges
pub mod Plans
pub mod Stores
