pub mod Owned
pub mod Seats
pub mod Steps
pub mod Sums
