pub mod PartOrder
pub mod Changed
pub mod Parts
pub mod Covering
