pub mod Lifting
pub mod Same
