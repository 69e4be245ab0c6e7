pub mod Last
pub mod Lists
pub mod Livrps
pub mod Once
pub mod Whole
