pub mod Meanings
pub mod Laws
pub mod Apart
pub mod Held
