pub mod Answer
pub mod Depths
pub mod Extending
pub mod Once
pub mod Reading
pub mod Grown
pub mod Loading
pub mod Settling
