pub mod Answers
pub mod Words
pub mod Values
pub mod Places
pub mod Lists
pub mod Repeats
pub mod Laws
