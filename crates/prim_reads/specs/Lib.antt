pub mod Reads
pub mod Gathered
