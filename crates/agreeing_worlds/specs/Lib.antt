pub mod Laws
pub mod Since
