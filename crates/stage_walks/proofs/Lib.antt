pub mod Members
pub mod Deep
pub mod Walks
pub mod Whole
