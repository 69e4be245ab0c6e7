pub mod Looks
pub mod Printing
