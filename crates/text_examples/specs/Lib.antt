pub mod Tokens
pub mod Values
pub mod Lists
pub mod Paths
pub mod ListEdits
pub mod Refusals
