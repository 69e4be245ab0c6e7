pub mod Meant
pub mod Unfolded
