pub mod Copies
pub mod Ends
pub mod Moves
pub mod Order
pub mod Places
pub mod Runs
pub mod Splits
