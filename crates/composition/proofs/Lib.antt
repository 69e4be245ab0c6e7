pub mod Anchored
pub mod Fitting
pub mod Members
pub mod Same
pub mod Tests
