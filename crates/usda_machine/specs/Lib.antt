pub mod Laws
pub mod Reading
pub mod Stacks
pub mod Texts
