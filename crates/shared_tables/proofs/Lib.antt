pub mod Counts
pub mod Firsts
pub mod Nodes
pub mod Order
pub mod Splits
pub mod Exchanges
