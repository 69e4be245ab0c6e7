pub mod Utf8
pub mod Laws
pub mod Examples
