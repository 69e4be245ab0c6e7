pub mod PathLaw
pub mod Ups
pub mod Members
pub mod TimeLaw
pub mod Powers
pub mod Tens
pub mod Wholes
