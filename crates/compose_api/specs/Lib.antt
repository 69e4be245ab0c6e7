pub mod Agreement
pub mod Refusals
pub mod Stage
