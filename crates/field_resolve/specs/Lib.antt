pub mod Activity
pub mod Folding
