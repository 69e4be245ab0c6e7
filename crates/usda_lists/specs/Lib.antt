pub mod Acts
pub mod Paths
pub mod Edits
pub mod Lists
pub mod Offsets
pub mod References
pub mod Repeats
