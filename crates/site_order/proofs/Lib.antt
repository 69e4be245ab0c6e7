pub mod Choosing
pub mod Noting
pub mod Counting
pub mod Kept
pub mod Parts
pub mod Placing
pub mod Ranking
pub mod Telling
