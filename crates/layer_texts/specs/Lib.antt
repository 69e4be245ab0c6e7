pub mod Spelled
pub mod ListWords
pub mod FieldWords
pub mod PropertyWords
pub mod LayerWords
pub mod Writable
pub mod Laws
pub mod Examples
