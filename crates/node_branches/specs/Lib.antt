pub mod Branches
pub mod Children
pub mod Following
