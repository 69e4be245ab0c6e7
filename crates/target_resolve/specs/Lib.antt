pub mod Resolving
pub mod Translating
