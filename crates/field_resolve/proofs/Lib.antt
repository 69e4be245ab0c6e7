pub mod Active
pub mod Folded
pub mod Overlaid
