pub mod DerivedOrder
pub mod Order
pub mod PathOrder
pub mod Paths
pub mod Reader
pub mod Refusal
pub mod Shared
pub mod Variants
