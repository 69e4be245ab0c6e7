pub mod Decided
pub mod Dicts
pub mod Inside
pub mod Kept
pub mod Order
pub mod Sorted
