pub mod Open
pub mod Elsewhere
pub mod Reasons
