pub mod Dating
pub mod Merging
pub mod TwoPrims
