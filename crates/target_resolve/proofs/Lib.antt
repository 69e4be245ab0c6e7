pub mod Fitting
pub mod Folded
pub mod Gathered
pub mod Moved
