pub mod Composed
pub mod Laws
pub mod Listing
pub mod Properties
pub mod Room
pub mod Root
pub mod Viewed
pub mod Trees
