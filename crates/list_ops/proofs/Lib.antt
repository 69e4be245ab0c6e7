pub mod EditLemmas
pub mod Skipped
