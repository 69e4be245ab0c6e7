pub mod Above
pub mod Cores
pub mod History
pub mod Kept
pub mod Publishes
