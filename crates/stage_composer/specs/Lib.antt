pub mod Composed
pub mod Covering
pub mod Indexes
