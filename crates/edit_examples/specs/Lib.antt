pub mod Worlds
pub mod Prims
pub mod Values
pub mod Fields
pub mod Metadata
pub mod Batches
