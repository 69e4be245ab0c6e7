pub mod Utf8
pub mod Returns
pub mod Meant
