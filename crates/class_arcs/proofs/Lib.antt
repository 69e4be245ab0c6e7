pub mod Above
pub mod Fitting
pub mod Listing
pub mod Sameness
