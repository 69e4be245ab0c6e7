pub mod Found
pub mod AllOf
pub mod Judging
pub mod Owners
pub mod Changing
pub mod Attributes
pub mod Named
