pub mod Appending
pub mod Running
pub mod Symbols
