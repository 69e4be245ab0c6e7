pub mod Flattened
