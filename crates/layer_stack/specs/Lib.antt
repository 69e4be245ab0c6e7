pub mod Listing
pub mod Meant
pub mod Visiting
