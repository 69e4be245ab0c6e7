pub mod Names
pub mod Keys
pub mod Owners
pub mod Fields
pub mod Variants
